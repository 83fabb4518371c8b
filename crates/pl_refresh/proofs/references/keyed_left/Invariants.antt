use Rattle.std.proofs.Common.{◌≡◌, take}
use Rattle.pl_refresh.specs.Refreshed.{keyed_left}
use Rattle.pl_refresh.proofs.references.keyed_left.Given as goal

-- those that were looked at
abbrev pub invariant-loop-pair : goal.invariant-loop-pair
invariant-loop-pair l = l.left ≡ keyed_left l.standing (take l.pair-index l.pairs)
