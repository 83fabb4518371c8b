use Rattle.pl_model_stays.proofs.Operations.Once as proof
use Rattle.pl_model_stays.proofs.laws.closed_once.Goals as goal

pub returns : goal.returns
returns c = λ run history ticket orderly. proof.closed_at_most_once run history ticket orderly
