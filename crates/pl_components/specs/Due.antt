-- The work that is due, the answers that are given, and what is over the limit.
use Rattle.std.specs.Prelude.{◌≡◌, ℕ, Bool, true, false, not, ◌&&◌, ◌||◌, if◌then◌else◌, nat_lt, Option, Some, None, is_some, List, [], length}
use Rattle.pl_state.specs.declared.goal.Goal.{Goal}
use Rattle.pl_state.specs.declared.entry.Entry.{Entry}
use Rattle.pl_events.specs.declared.event.Event.{Event}
use Rattle.pl_events.specs.declared.event.Answer.{Answer}
use Rattle.pl_events.specs.declared.event.Answer.TheVariants.{Registered}
use Rattle.pl_events.specs.Halted.{halted}
use Rattle.pl_model.specs.Run.{Spelling}
use Rattle.pl_world.specs.declared.frames.TheConstants.{MAX_BODY}
use Rattle.pl_state.specs.Formed.{most_resources}
use Rattle.pl_components.specs.Run.{Fixed}
use Rattle.pl_components.specs.Problems.{has_problem}
use Rattle.pl_components.specs.Requests.{goals_of, goal_at, waiting_of, is_waiting, made_for}
use Rattle.pl_components.specs.Entries.{new_entries, has_entry, unrecorded_of, is_unrecorded}

-- the goal, if it is recorded
abbrev pub recorded_goal : List Goal → List ℕ → Option ℕ → Option Goal
recorded_goal goals unrecorded None = None
recorded_goal goals unrecorded (Some number) =
    if is_unrecorded unrecorded number then None else goal_at goals number

-- the recorded goal that request n made, if it waits and there is one: its result
abbrev pub result_of : Fixed → List Event → ℕ → Option Goal
result_of run past n =
    recorded_goal (goals_of run past) (unrecorded_of run past) (made_for (waiting_of run past) n)

abbrev pub answer_for : Option Goal → Answer
answer_for None = halted
answer_for (Some goal) = Registered goal.urn None []

-- whether the answer of request n would have a longer body than a frame may have
abbrev pub is_too_long : Spelling → ℕ → Answer → Bool
is_too_long spelling n answer = nat_lt MAX_BODY (length (spelling.answer_text n answer))

-- the answer to request n: its result, or that it was halted; after a problem a result that would be
-- too long is halted too
abbrev pub answer_of : Fixed → Spelling → List Event → ℕ → Answer
answer_of run spelling past n =
    let answer = answer_for (result_of run past n)
    in (if has_problem past && is_too_long spelling n answer then halted else answer)

-- whether the post of request n is due: it waits, and it has its result or a problem stands
abbrev pub is_post_due : Fixed → List Event → ℕ → Bool
is_post_due run past n =
    is_waiting (waiting_of run past) n && (is_some (result_of run past n) || has_problem past)

-- whether the parent of a goal is none or is recorded
abbrev pub parent_stands : List Entry → Option (List ℕ) → Bool
parent_stands entries None = true
parent_stands entries (Some urn) = has_entry entries urn

abbrev pub is_placed : List Entry → Option Goal → Bool
is_placed entries None = false
is_placed entries (Some goal) = parent_stands entries goal.parent

-- whether goal g could be recorded, the limit aside: it is not recorded, its parent is, and no problem
-- stands
abbrev pub is_ready : Fixed → List Event → ℕ → Bool
is_ready run past g =
    is_unrecorded (unrecorded_of run past) g
    && (is_placed (new_entries run past) (goal_at (goals_of run past) g) && not (has_problem past))

-- whether one more resource may come
abbrev pub has_room : Fixed → List Event → Bool
has_room run past = nat_lt (length (new_entries run past)) most_resources

-- whether the keep of goal g is due
abbrev pub is_keep_due : Fixed → List Event → ℕ → Bool
is_keep_due run past g = is_ready run past g && has_room run past

-- whether the keep of goal g waits for the limit alone
abbrev pub is_over_limit : Fixed → List Event → ℕ → Bool
is_over_limit run past g = is_ready run past g && not (has_room run past)

-- nothing is due
pub record NothingDue (run : Fixed) (past : List Event) : Type 0 where
  pub no_post : (n : ℕ) → is_post_due run past n ≡ false
  pub no_keep : (g : ℕ) → is_keep_due run past g ≡ false

-- nothing is due, and nothing is over the limit
pub record IsQuiet (run : Fixed) (past : List Event) : Type 0 where
  pub nothing_due : NothingDue run past
  pub nothing_over : (g : ℕ) → is_over_limit run past g ≡ false
