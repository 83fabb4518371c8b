-- Laws on what a run comes to.
use Rattle.std.specs.Prelude.{◌≡◌, ℕ, ◌+◌, ◌≤◌, true, false, All, List, filter, length}
use Rattle.pl_state.specs.Formed.{is_formed_row, most_resources}
use Rattle.pl_state.specs.declared.snapshot.Snapshot.{Snapshot}
use Rattle.pl_events.specs.declared.event.Event.{Event}
use Rattle.pl_model.specs.declared.fixed.Fixed.{Fixed}
use Rattle.pl_model.specs.declared.mode.Mode.TheVariants.{Up}
use Rattle.pl_model.specs.Run.{is_refresh, rows_of}
use Rattle.pl_model.specs.RunData.{IsRun}
use Rattle.pl_model.specs.Due.{IsQuiet, count_of, is_counted}
use Rattle.pl_model.specs.Fulfilment.{Fulfils}
use Rattle.pl_model.specs.History.{known_of}
use Rattle.pl_model.specs.Known.{has_problem, host_ended}
use Rattle.pl_model.specs.Legal.{IsOrderly}
use Rattle.pl_model.specs.State.{state_of}

-- the state is what the goals ask for, and has as many entries as there are goals
pub record IsFulfilled (run : Fixed) (history : List Event) : Type 0 where
  pub fulfils : Fulfils run (state_of run history) history
  pub as_many : length (state_of run history).entries ≡ length (known_of run history).goals

-- an `up` that is done has fulfilled its goals: the host has ended, no problem stands, and nothing is out, due or over
-- the limit. That the host's end is its word of success is in it, since each other end is a problem
abbrev pub UpFulfils : Type 0
UpFulfils = (run : Fixed) (history : List Event) → IsRun run → run.mode ≡ Up → IsOrderly run history
    → host_ended (known_of run history) ≡ true → has_problem (known_of run history) ≡ false → IsQuiet (known_of run history)
    → IsFulfilled run history

-- ---- the limit

-- the count at the start: resources, and pending operations other than updates and deletes
abbrev pub start_count : Fixed → ℕ
start_count run = length (rows_of run) + length (filter is_counted run.base.pending)

-- the count is within the limit, and so are the resources of the state alone
pub record IsWithin (run : Fixed) (history : List Event) : Type 0 where
  pub count : count_of (known_of run history) ≤ most_resources
  pub entries : length (state_of run history).entries ≤ most_resources

-- where the count is within the limit at the start, it is so after every orderly history, that of a preview too
abbrev pub CountWithin : Type 0
CountWithin = (run : Fixed) (history : List Event) → start_count run ≤ most_resources → IsOrderly run history → IsWithin run history

-- at the start it is so where the data are those of a run, but for one that reads everything anew: that may begin with
-- pending operations, which count beside the rows
abbrev pub StartWithin : Type 0
StartWithin = (run : Fixed) → IsRun run → is_refresh run.mode ≡ false → start_count run ≤ most_resources

-- ---- the form of states

-- the rows and what is pending have the form that the checkpoint gives them
pub record IsFormedState (state : Snapshot) : Type 0 where
  pub entries : All (λ row. is_formed_row row ≡ true) state.entries
  pub pending : All (λ operation. is_formed_row operation.entry ≡ true) state.pending

-- where the state at the start has that form, as the data of a run have it, so has the state of every orderly history
abbrev pub StatesFormed : Type 0
StatesFormed = (run : Fixed) (history : List Event) → IsFormedState run.base → IsOrderly run history → IsFormedState (state_of run history)
