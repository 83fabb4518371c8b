use Rattle.std.proofs.Common.{◌≡◌, true, take}
use Rattle.pl_value.specs.IsValue.{are_values, each_is_value}
use Rattle.pl_value.proofs.sound.+sound.Given as goal

-- those that were looked at are values
abbrev pub invariant-are_values-loop-value : goal.invariant-are_values-loop-value
invariant-are_values-loop-value l = are_values (take l.value-index l.values) ≡ true

abbrev pub invariant-each_is_value-loop-value : goal.invariant-each_is_value-loop-value
invariant-each_is_value-loop-value l = each_is_value (take l.value-index l.fields) ≡ true
