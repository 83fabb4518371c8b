use Rattle.pl_model_stays.proofs.Work.Choosing as proof
use Rattle.pl_model_stays.proofs.choice.too_many_agrees.Goals as goal

pub returns : goal.returns
returns c = proof.too-many-agrees
