use Rattle.std.proofs.Common.{◌≡◌, take}
use Rattle.pl_value.specs.Secrets as spec
use Rattle.pl_value.proofs.secrets.marked.Given as goal

-- what was made are the first ones
abbrev pub invariant-loop-field : goal.invariant-loop-field
invariant-loop-field l = l.made ≡ spec.marked l.keys (take l.field-index l.fields)
