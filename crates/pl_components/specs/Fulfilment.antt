-- What a run that is done leaves behind.
use Rattle.std.specs.Prelude.{◌≡◌, List, map, reverse}
use Rattle.pl_state.specs.declared.snapshot.Snapshot.{Snapshot}
use Rattle.pl_events.specs.declared.event.Event.{Event}
use Rattle.pl_components.specs.Run.{Fixed}
use Rattle.pl_components.specs.Requests.{goals_of}
use Rattle.pl_components.specs.Entries.{entry_of}

-- the state has the entry of each goal, in the order of the goals, and no other
abbrev pub Fulfils : Fixed → Snapshot → List Event → Type 0
Fulfils run state history = state.entries ≡ map entry_of (reverse (goals_of run history))
