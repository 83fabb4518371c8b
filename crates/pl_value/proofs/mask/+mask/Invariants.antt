use Rattle.std.proofs.Common.{◌≡◌, take, map}
use Rattle.pl_value.specs.Shown.{masked, masked_fields}
use Rattle.pl_value.proofs.mask.+mask.Given as goal

-- what was made are the first ones
abbrev pub invariant-masked_values-loop-value : goal.invariant-masked_values-loop-value
invariant-masked_values-loop-value l = l.made ≡ map masked (take l.value-index l.values)

abbrev pub invariant-masked_fields-loop-key : goal.invariant-masked_fields-loop-key
invariant-masked_fields-loop-key l = l.made ≡ masked_fields (take l.key-index l.fields)
