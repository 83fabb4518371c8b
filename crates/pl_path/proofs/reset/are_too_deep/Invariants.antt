use Rattle.std.proofs.Common.{◌≡◌, drop}
use Rattle.pl_path.specs.Reset as spec
use Rattle.pl_path.proofs.reset.are_too_deep.Given as goal

-- the fields that are left decide
abbrev pub invariant-loop-value : goal.invariant-loop-value
invariant-loop-value l = spec.are_too_deep (drop l.value-index l.fields) ≡ spec.are_too_deep l.fields
