use Rattle.std.proofs.Common.{◌≡◌, ◌≤◌, count_by, take}
use Rattle.pl_snap.specs.Rows.{is_counted}
use Rattle.pl_snap.proofs.waiting.count_of.Given as goal

abbrev pub invariant-loop-pending : goal.invariant-loop-pending
invariant-loop-pending l = record {
  counted : l.counted ≡ count_by is_counted (take l.pending-index l.operations);
  within : l.counted ≤ l.pending-index;
}
