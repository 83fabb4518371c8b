-- Laws on what is there where it is spoken of, and on what stays where nothing is to be saved.
use Rattle.std.specs.Prelude.{◌≡◌, None, true, false, List, ◌∷◌}
use Rattle.pl_events.specs.declared.event.Event.{Event}
use Rattle.pl_events.specs.declared.operation.Op.{Op}
use Rattle.pl_model.specs.declared.fixed.Fixed.{Fixed}
use Rattle.pl_model.specs.Run.{is_preview}
use Rattle.pl_model.specs.RunData.{IsRun}
use Rattle.pl_model.specs.Due.{is_asked, source_of_op}
use Rattle.pl_model.specs.History.{known_of}
use Rattle.pl_model.specs.Known.{has_problem}
use Rattle.pl_model.specs.Legal.{IsOrderly}
use Rattle.pl_model.specs.Saves.{must_save}
use Rattle.pl_model.specs.State.{state_of}

-- what is to be done has the provider that it is sent to, or a problem stands
abbrev pub SentSourced : Type 0
SentSourced = (run : Fixed) (history : List Event) (about : Op) → IsRun run → IsOrderly run history
    → is_asked (known_of run history) about ≡ true → source_of_op (known_of run history) about ≡ None
    → has_problem (known_of run history) ≡ true

-- where an event need not be saved, the state is as it was
abbrev pub UnsavedStays : Type 0
UnsavedStays = (run : Fixed) (event : Event) (past : List Event)
    → is_preview run.mode ≡ false → IsOrderly run (event ∷ past)
    → must_save (known_of run past) event.what ≡ false → state_of run (event ∷ past) ≡ state_of run past
