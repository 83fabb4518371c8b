use Rattle.std.proofs.Common.{◌≡◌, drop, take}
use Rattle.pl_state.specs.References.{property_urns}
use Rattle.pl_options.specs.GoalOf.{first_bad, is_urn}
use Rattle.pl_options.proofs.reading.read_keyed.Given as goal

-- the first pairs were read, and what is bad is among the others
abbrev pub invariant-loop-pair : goal.invariant-loop-pair
invariant-loop-pair l =
    (l.made ≡ take l.pair-index l.pairs)
    × (first_bad is_urn (property_urns l.pairs) ≡ first_bad is_urn (property_urns (drop l.pair-index l.pairs)))
