-- Requests and the goals that they make.
use Rattle.std.specs.Prelude.{ℕ, ◌==◌, Bool, true, false, not, nat_lt, ◌&&◌, ◌||◌, if◌then◌else◌, Option, Some, None, is_none, List, [], ◌∷◌, length, filter}
use Rattle.std.specs.List.{list_any}
use Rattle.std.specs.Str.{bytes_eq}
use Rattle.pl_urn.specs.Grammar.{child_text, child_fault}
use Rattle.pl_state.specs.declared.goal.Registration.{Registration}
use Rattle.pl_state.specs.declared.goal.Goal.{Goal}
use Rattle.pl_state.specs.Component.{is_plain, plain_goal}
use Rattle.pl_events.specs.declared.event.Event.{Event}
use Rattle.pl_events.specs.declared.event.What.{What}
use Rattle.pl_events.specs.declared.event.What.TheVariants.{Told, Posted}
use Rattle.pl_events.specs.declared.event.Request.{Request}
use Rattle.pl_events.specs.declared.event.Request.TheVariants.{Register}
use Rattle.pl_model.specs.Known.{number_of}
use Rattle.pl_components.specs.Run.{Fixed}
use Rattle.pl_components.specs.Problems.{has_problem}

-- the number of the newest request that was told, 0 where none was
abbrev pub number_after : What → ℕ → ℕ
number_after (Told request) before = number_of request
number_after _ before = before

abbrev pub last_number : List Event → ℕ
last_number [] = 0
last_number (event ∷ past) = number_after event.what (last_number past)

-- the goal that a registration makes
abbrev pub goal_for : Fixed → Registration → Goal
goal_for run told =
    plain_goal (child_text told.parent run.stack run.project told.kind told.name) told.kind told.parent

-- whether a request is a registration
abbrev pub is_registration : Request → Bool
is_registration (Register _ _) = true
is_registration _ = false

-- the goals with the one that a request makes; only a registration makes one
abbrev pub with_goal : Fixed → Request → List Goal → List Goal
with_goal run (Register n told) goals = goal_for run told ∷ goals
with_goal run _ goals = goals

-- the goals after an event, newest first: a request that is told makes one, unless a problem halted it
abbrev pub goals_after : Fixed → What → Bool → List Goal → List Goal
goals_after run (Told request) halted goals = if halted then goals else with_goal run request goals
goals_after run _ halted goals = goals

-- the goals of a history, newest first; a goal's number is the count of the goals before it
abbrev pub goals_of : Fixed → List Event → List Goal
goals_of run [] = []
goals_of run (event ∷ past) = goals_after run event.what (has_problem past) (goals_of run past)

-- the goal of this number, if there is one
abbrev pub goal_at : List Goal → ℕ → Option Goal
goal_at [] number = None
goal_at (goal ∷ earlier) number = if length earlier == number then Some goal else goal_at earlier number

-- whether one of the goals has this URN
abbrev pub has_goal : List Goal → List ℕ → Bool
has_goal goals urn = list_any (λ goal. bytes_eq goal.urn urn) goals

-- whether a registration's parent is none or one of the goals
abbrev pub has_parent : List Goal → Option (List ℕ) → Bool
has_parent goals None = true
has_parent goals (Some urn) = has_goal goals urn

-- whether a registration may be accepted: it is a component's without an option, its type and name make a
-- URN, its parent is an earlier goal, and no earlier goal has its URN
abbrev pub is_acceptable : Fixed → List Goal → Registration → Bool
is_acceptable run goals told =
    is_plain told && is_none (child_fault told.kind told.name)
    && (has_parent goals told.parent && not (has_goal goals (goal_for run told).urn))

-- whether a request may stand after this history: a problem halts every registration, and nothing else is
-- asked of one that is halted; other requests may not stand yet
abbrev pub may_stand : Fixed → List Event → Request → Bool
may_stand run past (Register n told) = has_problem past || is_acceptable run (goals_of run past) told
may_stand run past _ = false

-- whether a request may be told after this history: its number is above every told one, and it may stand
abbrev pub may_be_next : Fixed → List Event → Request → Bool
may_be_next run past request =
    nat_lt (last_number past) (number_of request) && may_stand run past request

-- a request that waits for its answer: its number, and the number of the goal that it made, if any
pub record Waiting : Type 0 where
  pub number : ℕ
  pub made : Option ℕ

-- the number of the goal that a request makes when it is told
abbrev pub made_by : Bool → List Goal → Option ℕ
made_by halted goals = if halted then None else Some (length goals)

-- what waits after an event: a request that is told waits until its answer is posted
abbrev pub waiting_after : What → Option ℕ → List Waiting → List Waiting
waiting_after (Told request) made waiting = record { number = number_of request; made = made } ∷ waiting
waiting_after (Posted n) made waiting = filter (λ request. not (request.number == n)) waiting
waiting_after _ made waiting = waiting

-- the told requests that wait for their answer, newest first
abbrev pub waiting_of : Fixed → List Event → List Waiting
waiting_of run [] = []
waiting_of run (event ∷ past) =
    waiting_after event.what (made_by (has_problem past) (goals_of run past)) (waiting_of run past)

-- whether a request of this number waits
abbrev pub is_waiting : List Waiting → ℕ → Bool
is_waiting waiting n = list_any (λ request. request.number == n) waiting

-- the goal that the waiting request of this number made, if any
abbrev pub made_for : List Waiting → ℕ → Option ℕ
made_for [] n = None
made_for (request ∷ others) n = if request.number == n then request.made else made_for others n
