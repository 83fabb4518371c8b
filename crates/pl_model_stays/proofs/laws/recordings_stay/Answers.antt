use Rattle.std.proofs.Common.{◌≡◌, List, ◌∷◌, true, sym, subst}
use Rattle.pl_events.specs.declared.event.Event.{Event}
use Rattle.pl_lemmas.specs.Words.{has_number}
use Rattle.pl_model.specs.Recording.{recorded_of}
use Rattle.pl_model_stays.proofs.Lists.Growing as grown
use Rattle.pl_model_stays.proofs.Operations.Once as once
use Rattle.pl_model_stays.proofs.laws.recordings_stay.Goals as goal

pub returns : goal.returns
returns c = λ run event past number h.
    subst (λ (events : List Event). has_number (recorded_of events) number ≡ true) (sym (once.history_of run (event ∷ past)))
    (grown.recordings-stay run event past number
    (subst (λ (events : List Event). has_number (recorded_of events) number ≡ true) (once.history_of run past) h))
