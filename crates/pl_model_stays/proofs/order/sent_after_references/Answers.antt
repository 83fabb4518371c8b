use Rattle.std.proofs.Common.{◌≡◌, true, sym, ◌∙◌, subst}
use Rattle.std.proofs.lemmas.Option.{same_Some}
use Rattle.pl_state.specs.declared.goal.Goal.{Goal}
use Rattle.pl_model.specs.Due.{references_recorded}
use Rattle.pl_model.specs.History.{known_of}
use Rattle.pl_model_stays.proofs.Goals.Recorded as proof
use Rattle.pl_model_stays.proofs.order.sent_after_references.Goals as goal

pub returns : goal.returns
returns c = λ run history about number goal orderly begun on stands.
    let sent = proof.begun-held run history about number orderly begun on in
    subst (λ (it : Goal). references_recorded (known_of run history) it ≡ true)
    (same_Some sent.0 goal (sym sent.2.stands ∙ stands)) sent.2.references
