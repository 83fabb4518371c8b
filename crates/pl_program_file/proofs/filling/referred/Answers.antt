use Rattle.pl_value.proofs.Levels.{is_value-Unknown}
use Rattle.pl_program_file.proofs.filling.referred.Goals as goal

pub returns-in-None-clause-sound : goal.returns-in-None-clause-sound
returns-in-None-clause-sound c = is_value-Unknown
