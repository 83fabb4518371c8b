use Rattle.std.proofs.Common.{take}
use Rattle.pl_refresh.specs.Covers.{Covers}
use Rattle.pl_refresh.proofs.standing.index_of.Given as goal

-- the index is of the first entries
abbrev pub invariant-loop-row : goal.invariant-loop-row
invariant-loop-row l = Covers l.seen (take l.row-index l.rows)
