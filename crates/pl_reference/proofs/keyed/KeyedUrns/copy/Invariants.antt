use Rattle.std.proofs.Common.{◌≡◌, take}
use Rattle.pl_reference.proofs.keyed.KeyedUrns.copy.Given as goal

-- the elements that were copied are the first ones
abbrev pub invariant-loop-pair : goal.invariant-loop-pair
invariant-loop-pair l = l.pairs.items ≡ take l.pair-index l.pair-items
