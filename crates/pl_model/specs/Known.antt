-- What a history tells: its goals and what is decided of them, the told requests with their fates, the problems.
use Rattle.std.specs.Prelude.{ℕ, ◌==◌, Bool, not, ◌&&◌, ◌||◌, if◌then◌else◌, Option, None, Some, is_some, List, length, find, option_map, option_and_then}
use Rattle.std.specs.List.{range_with_len, list_all}
use Rattle.std.specs.Option.{option_or}
use Rattle.pl_state.specs.declared.entry.Entry.{Entry}
use Rattle.pl_state.specs.declared.goal.Goal.{Goal}
use Rattle.pl_events.specs.Closing.{has_host_end}
use Rattle.pl_events.specs.declared.event.Event.{Event}
use Rattle.pl_events.specs.declared.event.Request.{Request}
use Rattle.pl_events.specs.declared.event.Request.TheVariants.{Register, Outputs, Invoke}
use Rattle.pl_decide.specs.declared.decision.Decision.{Decision}
use Rattle.pl_decide.specs.declared.problem.Problem.{Problem}
use Rattle.pl_model.specs.declared.heard.Fate.{Fate}
use Rattle.pl_model.specs.declared.heard.Fate.TheVariants.{Accepted as accepted, Halted as halted, Refused as refused}
use Rattle.pl_model.specs.declared.heard.Heard.{Heard}
use Rattle.pl_model.specs.declared.decided.Decided.{Decided}
use Rattle.pl_model.specs.declared.errand.Closed.{Closed}
use Rattle.pl_model.specs.declared.fixed.Fixed.{Fixed}
use Rattle.pl_model.specs.Run.{Pairs, has_host}
use Rattle.pl_model.specs.Tickets.{answers_of}
use Rattle.pl_lemmas.specs.Words.{has_number, numbered}
use Rattle.pl_model.specs.Recording.{recorded_of, fresh_of}
use Rattle.pl_model.specs.Claims.{claimed_row, kept_provider_id}
use Rattle.pl_model.specs.Decisions.{Turn, checked_at, decided_of, inputs_at, number_at, turn_in}

-- what a history tells; goals, decisions, answers and requests stand newest first, problems in order, each with
-- its position
pub record Known : Type 0 where
  pub run : Fixed
  pub history : List Event
  pub answers : List Closed
  pub goals : List Goal
  pub decided : List Decided
  pub asked : List Heard
  pub problems : List (ℕ × Problem)

abbrev pub known_with : Fixed → List Event → List Closed → List Goal → List Heard → List (ℕ × Problem) → Known
known_with run history answers goals asked problems = record {
  run = run;
  history = history;
  answers = answers;
  goals = goals;
  decided = decided_of run answers goals;
  asked = asked;
  problems = problems;
}

-- what a history of these goals tells
abbrev pub known_by : Fixed → List Event → List Goal → List Heard → List (ℕ × Problem) → Known
known_by run history goals asked problems = known_with run history (answers_of history) goals asked problems

-- whether a problem stands
abbrev pub has_problem : Known → Bool
has_problem known = not (length known.problems == 0)

-- the goal of a number, and what is decided of it
abbrev pub goal_at : Known → ℕ → Option Goal
goal_at known number = numbered known.goals number

abbrev pub decided_goal : Known → ℕ → Option Decided
decided_goal known number = numbered known.decided number

abbrev pub is_decided : Known → ℕ → Bool
is_decided known number = is_some (decided_goal known number)

-- the turn of the first goal that is not decided
abbrev pub next_turn : Known → Option Turn
next_turn known = turn_in known.run known.answers known.goals known.decided

abbrev pub is_recorded : Known → ℕ → Bool
is_recorded known goal = has_number (recorded_of known.history) goal

-- the turn of a goal that is the first without a decision
abbrev pub turn_of_goal : Known → ℕ → Option Turn
turn_of_goal known goal =
    option_and_then (λ turn. if number_at turn == goal then Some turn else None) (next_turn known)

-- the row that a goal claims, once everything before it is decided
abbrev pub claim_of : Known → ℕ → Option ℕ
claim_of known goal =
    option_or (option_and_then (λ one. one.claim) (decided_goal known goal))
    (option_and_then (λ turn. turn.claim) (turn_of_goal known goal))

-- a goal's inputs, over those of its kin, once everything before it is decided
abbrev pub inputs_of : Known → ℕ → Option Pairs
inputs_of known goal =
    option_or (option_map (λ one. one.inputs) (decided_goal known goal)) (option_map inputs_at (turn_of_goal known goal))

-- its inputs as the check gave them, once they are known
abbrev pub checked_of : Known → ℕ → Option Pairs
checked_of known goal =
    option_or (option_map (λ one. one.checked) (decided_goal known goal)) (option_and_then checked_at (turn_of_goal known goal))

-- what is decided of it
abbrev pub decision_of : Known → ℕ → Option Decision
decision_of known goal = option_map (λ one. one.decision) (decided_goal known goal)

abbrev pub claim_row : Known → ℕ → Option Entry
claim_row known goal = claimed_row known.run (claim_of known goal)

-- the id of a provider: its claim's if that is usable, or else the one made of the number that its keep carries, once
-- it is kept
abbrev pub provider_id : Known → ℕ → Option (List ℕ)
provider_id known goal = kept_provider_id (claim_row known goal) (fresh_of known.history goal)

-- whether the host has ended; where a run has none, from the start
abbrev pub host_ended : Known → Bool
host_ended known = not (has_host known.run.mode) || has_host_end known.history

-- whether every goal is recorded
abbrev pub all_recorded : Known → Bool
all_recorded known = list_all (is_recorded known) (range_with_len 0 (length known.goals))

-- whether the host has ended and every goal is recorded
abbrev pub is_over : Known → Bool
is_over known = host_ended known && all_recorded known

-- a request's number
abbrev pub number_of : Request → ℕ
number_of (Register n told) = n
number_of (Outputs n urn outputs) = n
number_of (Invoke n token args provider version) = n

-- the told request of a number
abbrev pub asked_at : Known → ℕ → Option Heard
asked_at known n = find (λ asked. number_of asked.request == n) known.asked
