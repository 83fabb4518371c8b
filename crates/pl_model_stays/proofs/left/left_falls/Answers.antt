use Rattle.pl_model_stays.proofs.Work.Falling as proof
use Rattle.pl_model_stays.proofs.left.left_falls.Goals as goal

pub returns : goal.returns
returns c = proof.left-falls
