-- What the columns tell of an answer, whatever else is known of the run.
use Rattle.std.proofs.Common.{◌≡◌, ℕ, IfOk, List, Option, Result, Some, None, refl, sym, ap, ◌∙◌}
use Rattle.std.proofs.lemmas.Result.{IfOk-weaker}
use Rattle.pl_asks.specs.Answered.{TellsAnswers}
use Rattle.pl_columns.proofs.Read.{recorded_read}
use Rattle.pl_columns.specs.Read.{known_by}
use Rattle.pl_columns.specs.declared.columns.Columns.{Columns}
use Rattle.pl_events.specs.declared.event.Answer.{Answer}
use Rattle.pl_events.specs.declared.operation.Op.{Op}
use Rattle.pl_lemmas.specs.Words.{has_number}
use Rattle.pl_model.specs.Due.{is_recorded_about}
use Rattle.pl_model.specs.Known.{Known}
use Rattle.pl_model.specs.Tickets.{reply_to}
use Rattle.pl_model.specs.declared.errand.Closed.{Closed}

module _ (columns : Columns) (known : Known) (tells : TellsAnswers columns known) where
  pub recorded_told : (about : Option ℕ) → is_recorded_about (known_by columns) about ≡ is_recorded_about known about
  recorded_told None = refl
  recorded_told (Some goal) = recorded_read columns goal ∙ ap (λ (numbers : List ℕ). has_number numbers goal) (sym tells.recorded)

  pub reply_told : (about : Op) → reply_to (known_by columns).answers about ≡ reply_to known.answers about
  reply_told about = ap (λ (answers : List Closed). reply_to answers about) (sym tells.answers)

-- what a call gives is said of whatever is known that the columns tell
pub said_of_known : {E : Type 0} (columns : Columns) (given : Result Answer E) (answer : Answer) (Entered : Known → Type 0) (said : Known → Answer)
    → ((known : Known) → TellsAnswers columns known → Entered known → answer ≡ said known)
    → IfOk given (λ made. made ≡ answer)
    → IfOk given (λ made. (known : Known) → TellsAnswers columns known → Entered known → made ≡ said known)
said_of_known columns given answer Entered said same is =
    IfOk-weaker given (λ (made : Answer). made ≡ answer)
    (λ (made : Answer). (known : Known) → TellsAnswers columns known → Entered known → made ≡ said known)
    (λ made e known tells entered. e ∙ same known tells entered) is
