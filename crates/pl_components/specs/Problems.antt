-- The problems of a history, and the outcome that the least one gives.
use Rattle.std.specs.Prelude.{ℕ, Bool, false, ◌||◌, Option, Some, None, is_some, List, [], ◌∷◌, length}
use Rattle.pl_events.specs.declared.event.Event.{Event}
use Rattle.pl_events.specs.declared.event.What.{What}
use Rattle.pl_events.specs.declared.event.What.TheVariants.{HostGone, Stopped}
use Rattle.pl_decide.specs.declared.problem.Problem.{Problem}
use Rattle.pl_decide.specs.declared.outcome.Outcome.{Outcome}
use Rattle.pl_model.specs.Outcomes.{outcome_of_problem}
use Rattle.pl_model.specs.Problems.{problem_of_end, problem_of_stop}

-- the problem that an event makes
abbrev pub problem_of_event : What → Option Problem
problem_of_event (HostGone end) = problem_of_end end
problem_of_event (Stopped stop) = Some (problem_of_stop stop)
problem_of_event _ = None

-- whether a problem stands in the history
abbrev pub has_problem : List Event → Bool
has_problem [] = false
has_problem (event ∷ past) = is_some (problem_of_event event.what) || has_problem past

-- the outcome that a problem at this position gives, if there is one
abbrev pub outcome_of_event : ℕ → Option Problem → Option Outcome
outcome_of_event at None = None
outcome_of_event at (Some trouble) = outcome_of_problem at trouble

-- the first one, if there is one, or else the second
abbrev pub first_of : Option Outcome → Option Outcome → Option Outcome
first_of (Some earlier) later = Some earlier
first_of None later = later

-- the outcome of the history's least problem, if it has one other than want of memory
abbrev pub least_outcome : List Event → Option Outcome
least_outcome [] = None
least_outcome (event ∷ past) =
    first_of (least_outcome past) (outcome_of_event (length past) (problem_of_event event.what))
