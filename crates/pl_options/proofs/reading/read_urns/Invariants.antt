use Rattle.std.proofs.Common.{◌≡◌, drop, take}
use Rattle.pl_options.specs.GoalOf.{first_bad, is_urn}
use Rattle.pl_options.proofs.reading.read_urns.Given as goal

-- the first texts were read, and what is bad is among the others
abbrev pub invariant-loop-text : goal.invariant-loop-text
invariant-loop-text l =
    (l.urns ≡ take l.text-index l.text-items) × (first_bad is_urn l.text-items ≡ first_bad is_urn (drop l.text-index l.text-items))
