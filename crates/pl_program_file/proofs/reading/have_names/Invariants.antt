use Rattle.std.proofs.Common.{◌≡◌, true, take}
use Rattle.pl_program_file.specs.Names.{have_names}
use Rattle.pl_program_file.proofs.reading.have_names.Given as goal

abbrev pub invariant-loop-name : goal.invariant-loop-name
invariant-loop-name l = have_names l.resources (take l.name-index l.names) ≡ true
