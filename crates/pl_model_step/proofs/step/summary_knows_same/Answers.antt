use Rattle.pl_model_step.proofs.Same as proof
use Rattle.pl_model_step.proofs.step.summary_knows_same.Goals as goal

pub returns : goal.returns
returns c = proof.summary-knows_same
