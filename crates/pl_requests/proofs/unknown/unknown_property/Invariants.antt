use Rattle.std.proofs.Common.{◌≡◌, drop}
use Rattle.std.specs.List.{find}
use Rattle.pl_state.specs.References.{property_urns}
use Rattle.pl_requests.specs.Reading.{is_unknown}
use Rattle.pl_requests.proofs.unknown.unknown_property.Given as goal

-- what no goal has is among the pairs that were not looked at yet
abbrev pub invariant-loop-pair : goal.invariant-loop-pair
invariant-loop-pair l =
    find (is_unknown l.requests.goals) (property_urns l.pairs) ≡ find (is_unknown l.requests.goals) (property_urns (drop l.pair-index l.pairs))
