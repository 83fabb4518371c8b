use Rattle.std.proofs.Common.{◌+◌, length}
use Rattle.pl_refresh.proofs.Over.{Merging}
use Rattle.pl_refresh.proofs.planned.merged.Given as goal

abbrev pub invariant-loop-before : goal.invariant-loop-before
invariant-loop-before l = Merging l.fn.old l.fn.checked l.before l.over l.made.items

abbrev pub decreases-loop-before : goal.decreases-loop-before
decreases-loop-before l = length l.before + length l.over
