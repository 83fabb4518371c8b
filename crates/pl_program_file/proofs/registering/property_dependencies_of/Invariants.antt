use Rattle.std.proofs.Common.{◌≡◌, take}
use Rattle.pl_program_file.specs.Registered.{property_dependencies_of}
use Rattle.pl_program_file.proofs.registering.property_dependencies_of.Given as goal

abbrev pub invariant-loop-key : goal.invariant-loop-key
invariant-loop-key l = l.pairs ≡ property_dependencies_of l.known (take l.key-index l.inputs)
