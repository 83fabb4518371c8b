use Rattle.std.proofs.Common.{◌≡◌, false, take}
use Rattle.pl_program_file.specs.Names.{has_name}
use Rattle.pl_program_file.proofs.reading.has_name.Given as goal

-- those that were looked at have other names
abbrev pub invariant-loop-resource : goal.invariant-loop-resource
invariant-loop-resource l = has_name (take l.resource-index l.resources) l.name ≡ false
