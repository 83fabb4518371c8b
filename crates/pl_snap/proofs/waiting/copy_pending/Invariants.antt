use Rattle.std.proofs.Common.{◌≡◌, ◌++◌, take}
use Rattle.pl_snap.proofs.waiting.copy_pending.Given as goal

abbrev pub invariant-loop-pending : goal.invariant-loop-pending
invariant-loop-pending l = l.into ≡ l.fn.into ++ take l.pending-index l.operations
