use Rattle.pl_model_stays.proofs.Operations.Once as proof
use Rattle.pl_model_stays.proofs.laws.begun_once.Goals as goal

pub returns : goal.returns
returns c = λ run history about other orderly. proof.begun_at_most_once run about other history orderly
