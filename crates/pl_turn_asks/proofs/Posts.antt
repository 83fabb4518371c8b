-- The answer of a post, whatever is known of the run that the columns tell.
use Rattle.std.proofs.Common.{◌≡◌, ℕ, ◌==◌, find, IfOk, List, Option, Result, Some, None, sym, ap, subst, ◌∙◌}
use Rattle.std.proofs.lemmas.Result.{IfOk-weaker}
use Rattle.pl_asks.specs.Answered.{IsEntryAbout, TellsAnswers}
use Rattle.pl_columns.specs.declared.columns.Columns.{Columns}
use Rattle.pl_columns.specs.Read.{known_by}
use Rattle.pl_events.specs.Halted as unanswered
use Rattle.pl_events.specs.declared.event.Answer.{Answer}
use Rattle.pl_model.specs.Known.{Known, asked_at, number_of}
use Rattle.pl_model.specs.Posts.{answer_for}
use Rattle.pl_model.specs.declared.heard.Heard.{Heard}
use Rattle.pl_state.specs.declared.entry.Entry.{Entry}
use Rattle.pl_turn_asks.specs.Posted.{IsEntryAsked, IsEntryOf, TellsPosts}

asked_told : (columns : Columns) (known : Known) (n : ℕ) → TellsPosts columns known → asked_at (known_by columns) n ≡ asked_at known n
asked_told columns known n tells = ap (λ (asked : List Heard). find (λ one. number_of one.request == n) asked) (sym tells.asked)

-- what the result of a request is, by all that is known
abbrev pub IsResult : Columns → ℕ → Option Entry → Answer → Type 0
IsResult columns n entry made = (known : Known) → TellsPosts columns known → IsEntryOf known n entry → made ≡ answer_for known (asked_at known n)

pub unasked : {E : Type 0} (columns : Columns) (n : ℕ) (entry : Option Entry) (given : Result Answer E)
    → None ≡ asked_at (known_by columns) n → IfOk given (λ made. made ≡ unanswered.halted) → IfOk given (IsResult columns n entry)
unasked columns n entry given none is =
    IfOk-weaker given (λ (made : Answer). made ≡ unanswered.halted) (IsResult columns n entry)
    (λ made e known tells entered. e ∙ ap (answer_for known) (none ∙ asked_told columns known n tells)) is

pub asked_answer : {E : Type 0} (columns : Columns) (n : ℕ) (entry : Option Entry) (asked : Heard) (given : Result Answer E)
    → Some asked ≡ asked_at (known_by columns) n
    → IfOk given (λ made. (known : Known) → TellsAnswers columns known → IsEntryAbout known asked.request asked.about entry
    → made ≡ answer_for known (Some asked))
    → IfOk given (IsResult columns n entry)
asked_answer columns n entry asked given there is =
    IfOk-weaker given
    (λ (made : Answer). (known : Known) → TellsAnswers columns known → IsEntryAbout known asked.request asked.about entry → made ≡ answer_for known (Some asked))
    (IsResult columns n entry)
    (λ made of_known known tells entered.
    let same : Some asked ≡ asked_at known n = there ∙ asked_told columns known n tells in
    of_known known tells.answers (subst (λ (o : Option Heard). IsEntryAsked known o entry) (sym same) entered) ∙ ap (answer_for known) same) is
