use Rattle.std.proofs.Common.{◌≡◌, length}
use Rattle.pl_value.specs.Keys.{are_rising, keys_of}
use Rattle.pl_value.proofs.sound.are_rising.Given as goal

-- all rise where those rise that are left
abbrev pub invariant-loop-left : goal.invariant-loop-left
invariant-loop-left l = are_rising (keys_of l.left) ≡ are_rising (keys_of l.fields)

abbrev pub decreases-loop-left : goal.decreases-loop-left
decreases-loop-left l = length l.left
