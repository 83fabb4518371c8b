use Rattle.std.proofs.Common.{◌≡◌, take}
use Rattle.pl_state.proofs.pending.Pendings.copy.Given as goal

-- the elements that were copied are the first ones
abbrev pub invariant-loop-operation : goal.invariant-loop-operation
invariant-loop-operation l = l.operations.items ≡ take l.operation-index l.operation-items
