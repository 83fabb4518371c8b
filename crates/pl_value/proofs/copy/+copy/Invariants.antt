use Rattle.std.proofs.Common.{◌≡◌, take}
use Rattle.pl_value.proofs.copy.+copy.Given as goal

-- what was copied are the first ones
abbrev pub invariant-copy_values-loop-value : goal.invariant-copy_values-loop-value
invariant-copy_values-loop-value l = l.made ≡ take l.value-index l.values

abbrev pub invariant-copy_fields-loop-key : goal.invariant-copy_fields-loop-key
invariant-copy_fields-loop-key l = l.made ≡ take l.key-index l.fields
