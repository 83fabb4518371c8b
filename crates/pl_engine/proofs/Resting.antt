-- What is due after a request is told, and what is left when it was worked on.
use Rattle.std.proofs.Common.{◌≡◌, ℕ, Bool, true, false, List, [], ◌∷◌, length, Option, Some, None, refl, ◌==◌, nat_lt}
use Rattle.std.proofs.Math.Bool.{and-false, or-true}
use Rattle.pl_lemmas.proofs.Numbers.{same_number}
use Rattle.pl_state.specs.Formed.{most_resources}
use Rattle.pl_state.specs.declared.goal.Goal.{Goal}
use Rattle.pl_state.specs.declared.goal.Registration.{Registration}
use Rattle.pl_events.specs.declared.event.Event.{Event}
use Rattle.pl_components.specs.Run.{Fixed}
use Rattle.pl_components.specs.Problems.{has_problem}
use Rattle.pl_components.specs.Requests.{Waiting, goal_at, goal_for, goals_of, waiting_of}
use Rattle.pl_components.specs.Entries.{entry_if, entry_of, new_entries, unrecorded_of}
use Rattle.pl_components.specs.Due.{NothingDue, is_post_due, is_ready, parent_stands, result_of}
use Rattle.pl_engine.specs.Journal.{told_event}

module _ (run : Fixed) (n : ℕ) (told : Registration) (past : List Event) where
  -- the goal that the request makes, and its number
  abbrev made : Goal
  made = goal_for run told

  abbrev number : ℕ
  number = length (goals_of run past)

  abbrev after : List Event
  after = told_event n told ∷ past

  pub goals-told : has_problem past ≡ false → goals_of run after ≡ made ∷ goals_of run past
  goals-told free = rw free

  pub unrecorded-told : has_problem past ≡ false → unrecorded_of run past ≡ [] → unrecorded_of run after ≡ number ∷ []
  unrecorded-told free none = rw (free, none)

  pub waiting-told : has_problem past ≡ false → waiting_of run past ≡ []
      → waiting_of run after ≡ record { number = n; made = Some number } ∷ []
  waiting-told free none = rw (free, none)

  pub goal_at-told : has_problem past ≡ false → goal_at (goals_of run after) number ≡ Some made
  goal_at-told free = rw (goals-told free, same_number number)

  pub is_ready-told : has_problem past ≡ false → unrecorded_of run past ≡ []
      → parent_stands (new_entries run past) told.parent ≡ true → is_ready run after number ≡ true
  is_ready-told free none parent =
      rw (unrecorded-told free none, goal_at-told free, same_number number, parent, free)

  pub entry_if-told : has_problem past ≡ false → entry_if (goal_at (goals_of run after) number) ≡ entry_of made ∷ []
  entry_if-told free = rw (goal_at-told free)

  -- a goal that is not recorded is no result
  result-unrecorded : (m : ℕ) → has_problem past ≡ false → unrecorded_of run past ≡ [] → waiting_of run past ≡ []
      → result_of run after m ≡ None
  result-unrecorded m free none idle = by_case (n == m) refl
    where
      by_case : (b : Bool) → (n == m) ≡ b → result_of run after m ≡ None
      by_case true is = rw (free, is, none, same_number number)
      by_case false is = rw (is, idle)

  -- before the new goal is recorded no answer is due, and with a full state nothing at all is
  pub NothingDue-told : has_problem past ≡ false → unrecorded_of run past ≡ [] → waiting_of run past ≡ []
      → nat_lt (length (new_entries run past)) most_resources ≡ false → NothingDue run after
  NothingDue-told free none idle full = record {
    no_post = λ m. rw (result-unrecorded m free none idle, free, and-false);
    no_keep = λ g. rw (full, and-false);
  }

module _ (run : Fixed) (n number : ℕ) (goal : Goal) (history : List Event) where
  abbrev awaiting : List Waiting
  awaiting = record { number = n; made = Some number } ∷ []

  -- once its goal is recorded a request has its result, whatever stops came
  pub result-recorded : waiting_of run history ≡ awaiting → unrecorded_of run history ≡ [] → goal_at (goals_of run history) number ≡ Some goal
      → result_of run history n ≡ Some goal
  result-recorded waits none there = rw (waits, same_number n, none, there)

  pub is_post_due-recorded : waiting_of run history ≡ awaiting → unrecorded_of run history ≡ [] → goal_at (goals_of run history) number ≡ Some goal
      → is_post_due run history n ≡ true
  is_post_due-recorded waits none there = rw (result-recorded waits none there, waits, same_number n)

-- a request that waits alone and made this goal or none is answered after a problem
pub is_post_due-problem : (run : Fixed) (n : ℕ) (made : Option ℕ) (history : List Event)
    → waiting_of run history ≡ record { number = n; made = made } ∷ [] → has_problem history ≡ true → is_post_due run history n ≡ true
is_post_due-problem run n made history waits problem = rw (waits, same_number n, problem, or-true)

pub result-halted : (run : Fixed) (n : ℕ) (history : List Event)
    → waiting_of run history ≡ record { number = n; made = None } ∷ [] → result_of run history n ≡ None
result-halted run n history waits = rw (waits, same_number n)

-- a goal that was told and not recorded is no result
pub result-stopped : (run : Fixed) (n number : ℕ) (history : List Event)
    → waiting_of run history ≡ record { number = n; made = Some number } ∷ [] → unrecorded_of run history ≡ number ∷ []
    → result_of run history n ≡ None
result-stopped run n number history waits left = rw (waits, same_number n, left, same_number number)
