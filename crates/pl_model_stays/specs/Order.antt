-- Laws on the order in which goals are carried out: references first.
use Rattle.std.specs.Prelude.{◌≡◌, ℕ, true, Some, List, ◌∷◌}
use Rattle.pl_state.specs.declared.goal.Goal.{Goal}
use Rattle.pl_events.specs.declared.event.Event.{Event}
use Rattle.pl_events.specs.declared.operation.Op.{Op}
use Rattle.pl_model.specs.declared.fixed.Fixed.{Fixed}
use Rattle.pl_model.specs.Due.{references_recorded}
use Rattle.pl_model.specs.History.{known_of}
use Rattle.pl_model.specs.Known.{goal_at}
use Rattle.pl_model.specs.Legal.{IsOrderly}
use Rattle.pl_model.specs.Recording.{goal_of_op, recorded_by}
use Rattle.pl_model.specs.Tickets.{was_begun}

-- what makes, changes or reads a goal's thing is begun only once the goals of its references are recorded
abbrev pub SentAfterReferences : Type 0
SentAfterReferences = (run : Fixed) (history : List Event) (about : Op) (number : ℕ) (goal : Goal)
    → IsOrderly run history → was_begun history about ≡ true → goal_of_op about ≡ Some number
    → goal_at (known_of run history) number ≡ Some goal → references_recorded (known_of run history) goal ≡ true

-- a goal is recorded after the goals of its references
abbrev pub RecordedAfterReferences : Type 0
RecordedAfterReferences = (run : Fixed) (event : Event) (past : List Event) (number : ℕ) (goal : Goal)
    → IsOrderly run (event ∷ past) → recorded_by past event.what ≡ Some number
    → goal_at (known_of run past) number ≡ Some goal → references_recorded (known_of run past) goal ≡ true
