use Rattle.std.proofs.Common.{◌≡◌, false, take}
use Rattle.pl_value.specs.Inside.{any_unknown, any_field_unknown}
use Rattle.pl_value.proofs.inside.+unknown.Given as goal

abbrev pub invariant-any_unknown-loop-value : goal.invariant-any_unknown-loop-value
invariant-any_unknown-loop-value l = any_unknown (take l.value-index l.values) ≡ false

abbrev pub invariant-any_field_unknown-loop-value : goal.invariant-any_field_unknown-loop-value
invariant-any_field_unknown-loop-value l = any_field_unknown (take l.value-index l.fields) ≡ false
