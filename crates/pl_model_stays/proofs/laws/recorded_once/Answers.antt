use Rattle.pl_model_stays.proofs.Goals.Recorded as proof
use Rattle.pl_model_stays.proofs.laws.recorded_once.Goals as goal

pub returns : goal.returns
returns c = λ run history number orderly. proof.recorded_at_most_once run history number orderly
