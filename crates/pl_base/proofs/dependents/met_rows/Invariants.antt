use Rattle.std.proofs.Common.{◌≡◌, ◌++◌, take}
use Rattle.std.specs.List.{flat_map}
use Rattle.pl_state.specs.References.{property_urns}
use Rattle.pl_base.specs.Dependents.{group_in}
use Rattle.pl_base.proofs.dependents.met_rows.Given as goal

abbrev pub invariant-loop-pair : goal.invariant-loop-pair
invariant-loop-pair l = l.met.items ≡ l.initial.met.items ++ flat_map (group_in l.groups) (property_urns (take l.pair-index l.pair-items))
