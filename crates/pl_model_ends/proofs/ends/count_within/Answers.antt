use Rattle.pl_model_ends.proofs.Within as proof
use Rattle.pl_model_ends.proofs.ends.count_within.Goals as goal

pub returns : goal.returns
returns c = proof.count-within
