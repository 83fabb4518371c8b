use Rattle.pl_model_step.proofs.Steps as proof
use Rattle.pl_model_step.proofs.step.summary_steps.Goals as goal

pub returns : goal.returns
returns c = proof.summary-steps
