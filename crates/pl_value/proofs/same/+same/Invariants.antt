use Rattle.std.proofs.Common.{◌≡◌, take, length}
use Rattle.pl_value.proofs.same.+same.Given as goal

-- the first ones of both are the same
abbrev pub invariant-same_values-loop-place : goal.invariant-same_values-loop-place
invariant-same_values-loop-place l = (length l.a ≡ length l.b) × (take l.place l.a ≡ take l.place l.b)

abbrev pub invariant-same_fields-loop-place : goal.invariant-same_fields-loop-place
invariant-same_fields-loop-place l = (length l.a ≡ length l.b) × (take l.place l.a ≡ take l.place l.b)
