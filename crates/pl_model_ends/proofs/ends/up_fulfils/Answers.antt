use Rattle.pl_model_ends.proofs.Fulfilling as proof
use Rattle.pl_model_ends.proofs.ends.up_fulfils.Goals as goal

pub returns : goal.returns
returns c = proof.up-fulfils
