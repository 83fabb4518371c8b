use Rattle.std.proofs.Common.{◌≡◌, ◌++◌, take}
use Rattle.std.specs.List.{flat_map}
use Rattle.pl_base.specs.Dependents.{group_in}
use Rattle.pl_base.proofs.dependents.push_urns.Given as goal

abbrev pub invariant-loop-urn : goal.invariant-loop-urn
invariant-loop-urn l = l.met.items ≡ l.initial.met.items ++ flat_map (group_in l.groups) (take l.urn-index l.urns)
