use Rattle.std.proofs.Common.{◌≡◌, take}
use Rattle.pl_state.proofs.entries.Entries.copy.Given as goal

-- the elements that were copied are the first ones
abbrev pub invariant-loop-entry : goal.invariant-loop-entry
invariant-loop-entry l = l.rows.items ≡ take l.entry-index l.entry-items
