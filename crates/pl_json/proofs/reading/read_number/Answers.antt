use Rattle.pl_value.proofs.Levels.{is_value-Whole}
use Rattle.pl_json.proofs.reading.read_number.Goals as goal

pub returns-in-Some-clause-sound : goal.returns-in-Some-clause-sound
returns-in-Some-clause-sound c = is_value-Whole _
