-- What a history tells, event by event.
use Rattle.std.specs.Prelude.{ℕ, Bool, true, false, Option, List, [], ◌∷◌, ◌++◌, length, find}
use Rattle.pl_state.specs.declared.goal.Goal.{Goal}
use Rattle.pl_events.specs.declared.event.Event.{Event}
use Rattle.pl_events.specs.declared.event.What.{What}
use Rattle.pl_events.specs.declared.event.What.TheVariants.{Told}
use Rattle.pl_decide.specs.declared.problem.Problem.{Problem}
use Rattle.pl_decide.specs.declared.problem.Problem.TheVariants.{NoMemory}
use Rattle.pl_model.specs.declared.fixed.Fixed.{Fixed}
use Rattle.pl_model.specs.declared.heard.Heard.{Heard}
use Rattle.pl_model.specs.Known.{Known, known_by}
use Rattle.pl_model.specs.Requests.{asked_by, fate_of, goals_by}
use Rattle.pl_model.specs.Problems.{at_position, problems_at, start_problems}

-- the goals after an event
abbrev pub goals_after : Known → What → List Goal
goals_after before (Told request) = goals_by before request (fate_of before request)
goals_after before _ = before.goals

-- the told requests after an event
abbrev pub asked_after : Known → What → List Heard
asked_after before (Told request) = asked_by before request (fate_of before request) ∷ before.asked
asked_after before _ = before.asked

abbrev pub with_problems : Known → What → Known → Known
with_problems before what after =
    record after { problems = before.problems ++ at_position (length before.history) (problems_at before after what) }

-- what a history tells with one event more
abbrev pub known_after : Event → Known → Known
known_after event before =
    with_problems before event.what
    (known_by before.run (event ∷ before.history) (goals_after before event.what) (asked_after before event.what) before.problems)

-- what a history tells
unfoldable pub known_of : Fixed → List Event → Known
known_of run [] = known_by run [] [] [] (start_problems run)
known_of run (event ∷ past) = known_after event (known_of run past)

-- the goals of a history, newest first
abbrev pub goals_of : Fixed → List Event → List Goal
goals_of run history = (known_of run history).goals

-- the problems of a history, each with its position, the least one first
abbrev pub problems_of : Fixed → List Event → List (ℕ × Problem)
problems_of run history = (known_of run history).problems

abbrev pub is_no_want : Problem → Bool
is_no_want NoMemory = false
is_no_want _ = true

-- the least problem other than want of memory
abbrev pub problem_of : Fixed → List Event → Option (ℕ × Problem)
problem_of run history = find (λ placed. is_no_want placed.1) (problems_of run history)
