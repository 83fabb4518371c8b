use Rattle.std.proofs.Common.{refl}
use Rattle.pl_program_file.specs.Filled.{id_key}
use Rattle.pl_program_file.proofs.known.id_key.Goals as goal

pub returns : goal.returns
unfolding id_key
returns c = refl
