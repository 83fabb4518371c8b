-- What a run that is done leaves behind.
use Rattle.std.specs.Prelude.{◌≡◌, ℕ, ◌<◌, Contains, List, [], length}
use Rattle.pl_state.specs.declared.snapshot.Snapshot.{Snapshot}
use Rattle.pl_events.specs.declared.event.Event.{Event}
use Rattle.pl_model.specs.declared.fixed.Fixed.{Fixed}
use Rattle.pl_model.specs.Entries.{new_entries}
use Rattle.pl_model.specs.History.{known_of}
use Rattle.pl_model.specs.Known.{Known}
use Rattle.pl_model.specs.Recording.{recorded_of}

-- every goal is recorded just once
pub record AllOnce (known : Known) : Type 0 where
  pub count : length (recorded_of known.history) ≡ length known.goals
  pub each : (number : ℕ) → number < length known.goals → Contains (recorded_of known.history) number

-- the entries of a state are those of the goals, one for each and no other, and nothing is pending
pub record Fulfils (run : Fixed) (state : Snapshot) (history : List Event) : Type 0 where
  pub goals : AllOnce (known_of run history)
  pub entries : state.entries ≡ new_entries (known_of run history)
  pub pending : state.pending ≡ []
