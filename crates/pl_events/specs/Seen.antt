-- What is seen of a history.
use Rattle.std.specs.Prelude.{ℕ, List}
use Rattle.pl_events.specs.declared.event.Event.{Event}

-- the events, the newest first, and how many more have their room already
pub record Seen : Type 0 where
  pub events : List Event
  pub room : ℕ
