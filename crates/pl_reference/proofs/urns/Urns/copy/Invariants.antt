use Rattle.std.proofs.Common.{◌≡◌, take}
use Rattle.pl_reference.proofs.urns.Urns.copy.Given as goal

-- the elements that were copied are the first ones
abbrev pub invariant-loop-urn : goal.invariant-loop-urn
invariant-loop-urn l = l.urns.items ≡ take l.urn-index l.urn-items
