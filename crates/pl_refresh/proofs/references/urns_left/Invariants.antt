use Rattle.std.proofs.Common.{◌≡◌, take}
use Rattle.pl_refresh.specs.Refreshed.{urns_left}
use Rattle.pl_refresh.proofs.references.urns_left.Given as goal

-- those that were looked at
abbrev pub invariant-loop-urn : goal.invariant-loop-urn
invariant-loop-urn l = l.left ≡ urns_left l.standing (take l.urn-index l.urns)
