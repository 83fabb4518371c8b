use Rattle.pl_model_step.proofs.Same as proof
use Rattle.pl_model_step.proofs.step.plain_reads_same.Goals as goal

pub returns : goal.returns
returns c = proof.plain-reads_same
