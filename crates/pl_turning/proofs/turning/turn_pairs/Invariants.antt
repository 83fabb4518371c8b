use Rattle.std.proofs.Common.{◌≡◌, take}
use Rattle.pl_turning.specs.Turning.{turned_pairs}
use Rattle.pl_turning.proofs.turning.turn_pairs.Given as goal

abbrev pub invariant-loop-pair : goal.invariant-loop-pair
invariant-loop-pair l = l.made ≡ turned_pairs (record { old = l.old; new = l.new }) (take l.pair-index l.pair-items)
