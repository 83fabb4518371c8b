use Rattle.std.proofs.Common.{◌≡◌, take}
use Rattle.pl_events.proofs.history.History.copy.Given as goal

-- the elements that were copied are the first ones
abbrev pub invariant-loop-event : goal.invariant-loop-event
invariant-loop-event l = l.copied.items ≡ take l.event-index l.event-items
