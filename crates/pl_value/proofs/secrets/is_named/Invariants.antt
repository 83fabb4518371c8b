use Rattle.std.proofs.Common.{◌≡◌, false, take}
use Rattle.pl_value.specs.Secrets as spec
use Rattle.pl_value.proofs.secrets.is_named.Given as goal

-- the names that were looked at are others
abbrev pub invariant-loop-name : goal.invariant-loop-name
invariant-loop-name l = spec.is_named (take l.name-index l.keys) l.key ≡ false
