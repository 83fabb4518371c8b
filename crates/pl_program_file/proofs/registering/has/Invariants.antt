use Rattle.std.proofs.Common.{◌≡◌, false, take}
use Rattle.pl_program_file.specs.Registered as spec
use Rattle.pl_program_file.proofs.registering.has.Given as goal

-- those that were looked at are others
abbrev pub invariant-loop-one : goal.invariant-loop-one
invariant-loop-one l = spec.has (take l.one-index l.urns) l.urn ≡ false
