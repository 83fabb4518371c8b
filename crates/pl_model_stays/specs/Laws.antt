-- Laws of a history's definitions.
use Rattle.std.specs.Prelude.{◌≡◌, ℕ, ◌≤◌, ◌==◌, Bool, true, false, Some, List, ◌∷◌, filter, length}
use Rattle.pl_state.specs.declared.goal.Goal.{Goal}
use Rattle.pl_events.specs.declared.event.Event.{Event}
use Rattle.pl_events.specs.declared.operation.Op.{Op}
use Rattle.pl_events.specs.declared.operation.Op.TheVariants as op
use Rattle.pl_model.specs.declared.decided.Decided.{Decided}
use Rattle.pl_model.specs.declared.fixed.Fixed.{Fixed}
use Rattle.pl_model.specs.declared.heard.Heard.{Heard}
use Rattle.pl_model.specs.History.{known_of}
use Rattle.pl_model.specs.Known.{asked_at, decided_goal, goal_at, is_recorded}
use Rattle.pl_model.specs.Legal.{IsOrderly}
use Rattle.pl_model.specs.Recording.{recorded_of}
use Rattle.pl_model.specs.Tickets.{begun_of, closes, same_op}

-- a goal keeps its number when the history grows
abbrev pub GoalsStay : Type 0
GoalsStay = (run : Fixed) (event : Event) (past : List Event) (number : ℕ) (goal : Goal)
    → goal_at (known_of run past) number ≡ Some goal → goal_at (known_of run (event ∷ past)) number ≡ Some goal

-- what is decided of a goal stays when the history grows
abbrev pub DecisionsStay : Type 0
DecisionsStay = (run : Fixed) (event : Event) (past : List Event) (number : ℕ) (one : Decided)
    → decided_goal (known_of run past) number ≡ Some one → decided_goal (known_of run (event ∷ past)) number ≡ Some one

-- a goal that is recorded stays recorded
abbrev pub RecordingsStay : Type 0
RecordingsStay = (run : Fixed) (event : Event) (past : List Event) (number : ℕ)
    → is_recorded (known_of run past) number ≡ true → is_recorded (known_of run (event ∷ past)) number ≡ true

-- a told request keeps its fate and what it is about when an orderly history grows
abbrev pub RequestsStay : Type 0
RequestsStay = (run : Fixed) (event : Event) (past : List Event) (n : ℕ) (asked : Heard)
    → IsOrderly run (event ∷ past) → asked_at (known_of run past) n ≡ Some asked
    → asked_at (known_of run (event ∷ past)) n ≡ Some asked

-- a ticket is closed at most once in an orderly history
abbrev pub ClosedOnce : Type 0
ClosedOnce = (run : Fixed) (history : List Event) (ticket : ℕ)
    → IsOrderly run history → length (filter (λ event. closes ticket event.what) history) ≤ 1

-- whether an operation configures a lane, which each lane of a provider has
abbrev pub is_configure : Op → Bool
is_configure (op.Configure provider) = true
is_configure _ = false

-- an orderly history begins no other operation twice
abbrev pub BegunOnce : Type 0
BegunOnce = (run : Fixed) (history : List Event) (about : Op)
    → is_configure about ≡ false → IsOrderly run history
    → length (filter (λ errand. same_op errand.op about) (begun_of history)) ≤ 1

-- an orderly history records no goal twice
abbrev pub RecordedOnce : Type 0
RecordedOnce = (run : Fixed) (history : List Event) (number : ℕ)
    → IsOrderly run history → length (filter (λ other. other == number) (recorded_of history)) ≤ 1
