use Rattle.std.proofs.Common.{take}
use Rattle.pl_base.specs.Index.{LeadsToKeepers}
use Rattle.pl_base.proofs.keepers.keepers_of.Given as goal

abbrev pub invariant-loop-place : goal.invariant-loop-place
invariant-loop-place l = LeadsToKeepers l.keepers (take l.place l.rows)
