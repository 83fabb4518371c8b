use Rattle.pl_model_step.proofs.Reading as proof
use Rattle.pl_model_step.proofs.step.summary_tells.Goals as goal

pub returns : goal.returns
returns c = proof.summary-tells
