-- The course of a run: what the run is over, and what happened in it.
use Rattle.std.specs.Prelude.{ℕ, List, [], ◌∷◌}
use Rattle.pl_events.specs.declared.event.Event.{Event}
use Rattle.pl_events.specs.declared.event.What.{What}
use Rattle.pl_model.specs.declared.fixed.Fixed.{Fixed}
use Rattle.pl_model.specs.History.{known_of}
use Rattle.pl_model.specs.Known.{Known}

-- events stand newest first
pub record Course : Type 0 where
  pub run : Fixed
  pub history : List Event

abbrev pub no_event : Fixed → Course
no_event run = record { run = run; history = [] }

-- with one event more, by the thread at this seat
abbrev pub with_event : ℕ → What → Course → Course
with_event seat what course = record course { history = record { seat = seat; what = what } ∷ course.history }

-- what is known of it
abbrev pub known_now : Course → Known
known_now course = known_of course.run course.history
