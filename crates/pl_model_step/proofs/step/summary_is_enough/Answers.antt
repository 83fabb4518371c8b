use Rattle.pl_model_step.proofs.Enough as proof
use Rattle.pl_model_step.proofs.step.summary_is_enough.Goals as goal

pub returns : goal.returns
returns c = proof.summary-is_enough
