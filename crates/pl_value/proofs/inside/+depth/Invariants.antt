use Rattle.std.proofs.Common.{◌≡◌, ◌-◌, ◌^◌, min, max, drop}
use Rattle.pl_value.specs.Inside.{greatest_depth, greatest_field_depth}
use Rattle.pl_value.proofs.inside.+depth.Given as goal

abbrev pub invariant-greatest-loop-value : goal.invariant-greatest-loop-value
invariant-greatest-loop-value l =
    max l.most (min (greatest_depth (drop l.value-index l.values)) (2 ^ 64 - 1)) ≡ min (greatest_depth l.values) (2 ^ 64 - 1)

abbrev pub invariant-greatest_field-loop-value : goal.invariant-greatest_field-loop-value
invariant-greatest_field-loop-value l =
    max l.most (min (greatest_field_depth (drop l.value-index l.fields)) (2 ^ 64 - 1)) ≡ min (greatest_field_depth l.fields) (2 ^ 64 - 1)
