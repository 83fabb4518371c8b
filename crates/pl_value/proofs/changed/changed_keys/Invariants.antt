use Rattle.std.proofs.Common.{◌+◌, length}
use Rattle.pl_value.proofs.Merging.{Merging}
use Rattle.pl_value.proofs.changed.changed_keys.Given as goal

abbrev pub invariant-loop-before : goal.invariant-loop-before
invariant-loop-before l = Merging l.fn.old l.fn.new l.before l.after l.keys

abbrev pub decreases-loop-before : goal.decreases-loop-before
decreases-loop-before l = length l.before + length l.after
