use Rattle.std.proofs.Common.{◌≡◌, not, None, map, take}
use Rattle.std.specs.List.{find, flat_map}
use Rattle.pl_state.specs.declared.fault.Missing.TheVariants.{Dependency}
use Rattle.pl_sound.specs.Seen.{gives}
use Rattle.pl_sound.proofs.seen.Seen.property_missing.Given as goal

abbrev pub invariant-loop-pair : goal.invariant-loop-pair
invariant-loop-pair l =
    find (λ want. not (gives l.self want)) (map Dependency (flat_map (λ pair. pair.1) (take l.pair-index l.pair-items))) ≡ None
