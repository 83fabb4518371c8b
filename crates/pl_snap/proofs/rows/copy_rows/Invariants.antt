use Rattle.std.proofs.Common.{◌≡◌, ◌++◌, take}
use Rattle.pl_snap.proofs.rows.copy_rows.Given as goal

abbrev pub invariant-loop-row : goal.invariant-loop-row
invariant-loop-row l = l.into ≡ l.fn.into ++ take l.row-index l.rows
