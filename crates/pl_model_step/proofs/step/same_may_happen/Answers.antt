use Rattle.pl_model_step.proofs.Happen as proof
use Rattle.pl_model_step.proofs.step.same_may_happen.Goals as goal

pub returns : goal.returns
returns c = proof.same-may_happen
