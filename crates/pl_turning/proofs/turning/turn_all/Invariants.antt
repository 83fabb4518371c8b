use Rattle.std.proofs.Common.{◌≡◌, map, take}
use Rattle.pl_turning.specs.Turning.{turned}
use Rattle.pl_turning.proofs.turning.turn_all.Given as goal

abbrev pub invariant-loop-urn : goal.invariant-loop-urn
invariant-loop-urn l = l.made ≡ map (turned (record { old = l.old; new = l.new })) (take l.urn-index l.urn-items)
