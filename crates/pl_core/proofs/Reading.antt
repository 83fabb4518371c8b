-- What is read of the columns is read of the history.
use Rattle.std.proofs.Common.{◌≡◌, ℕ, ◌==◌, true, false, if◌then◌else◌, List, length, None, Some, option_and_then, ◌∙◌, sym, ap, arith}
use Rattle.std.proofs.lemmas.Bool.Decides.{nat_tests}
use Rattle.pl_lemmas.specs.Words.{numbered}
use Rattle.pl_lemmas.proofs.Numbers.{same_number}
use Rattle.pl_state.specs.declared.goal.Goal.{Goal}
use Rattle.pl_columns.specs.Read.{summary_by}
use Rattle.pl_model.specs.Decisions.{Turn, number_at, turn_in}
use Rattle.pl_model.specs.Known.{Known, next_turn, turn_of_goal}
use Rattle.pl_model.specs.Step.{summary_of}
use Rattle.pl_model_stays.proofs.Lists.Growing.{run_of}
use Rattle.pl_turns.specs.Goals.{goals_before}
use Rattle.pl_turns.specs.Next.{next_turn as turn_by}
use Rattle.pl_turns.proofs.Goals.{before_length, numbered_within}
use Rattle.pl_core.specs.declared.held.Core.TheInside.{Inside}
use Rattle.pl_core.specs.Core.{IsCore, course_by}
use Rattle.pl_course.specs.Course.{Course, known_now}
use Rattle.pl_course.specs.Kept.{kept_of}

pub read_now : (inside : Inside) (course : Course) → IsCore inside → course_by inside ≡ course
    → summary_by inside.columns ≡ kept_of (summary_of course.run course.history)
read_now inside course core is = core.told ∙ ap (λ (one : Course). kept_of (summary_of one.run one.history)) is

-- the turn that is read of the columns is that of the history
pub turn_read : (inside : Inside) (course : Course) → IsCore inside → course_by inside ≡ course
    → turn_by inside.columns.requests inside.columns.errands inside.columns.claims ≡ next_turn (known_now course)
turn_read inside course core is = λ i.
    turn_in ((ap (λ (one : Course). one.run) is ∙ sym (run_of course.run course.history)) i)
    (read_now inside course core is i).answers (read_now inside course core is i).goals (read_now inside course core is i).decided

-- ---- the goal whose turn it is

apart : (a b : ℕ) → (a ≡ b → ⊥) → (a == b) ≡ false
apart a b different = grind (arith, nat_tests)

-- the next turn is that of its goal
pub at_goal : (known : Known) (turn : Turn) (goal : ℕ) → Some turn ≡ next_turn known → number_at turn ≡ goal → Some turn ≡ turn_of_goal known goal
at_goal known turn goal is same =
    let yes : (number_at turn == goal) ≡ true = ap (λ (n : ℕ). n == goal) same ∙ same_number goal in
    (λ i. if sym yes i then Some turn else None)
    ∙ ap (option_and_then (λ one. if number_at one == goal then Some one else None)) is

-- and of no other one
pub at_other : (known : Known) (turn : Turn) (goal : ℕ) → Some turn ≡ next_turn known → (number_at turn ≡ goal → ⊥) → None ≡ turn_of_goal known goal
at_other known turn goal is different =
    (λ i. if sym (apart (number_at turn) goal different) i then Some turn else None)
    ∙ ap (option_and_then (λ one. if number_at one == goal then Some one else None)) is

-- where there is none, it is the turn of no goal
pub at_none : (known : Known) (goal : ℕ) → None ≡ next_turn known → None ≡ turn_of_goal known goal
at_none known goal is = ap (option_and_then (λ one. if number_at one == goal then Some one else None)) is

-- the number of a goal is the count of those before it
pub turn_number : (goals : List Goal) (number : ℕ) (goal : Goal) → numbered goals number ≡ Some goal → length (goals_before goals number) ≡ number
turn_number goals number goal is = before_length goals number (numbered_within goals number goal is)
