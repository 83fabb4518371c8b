use Rattle.pl_model_ends.proofs.Forming as proof
use Rattle.pl_model_ends.proofs.ends.states_formed.Goals as goal

pub returns : goal.returns
returns c = proof.states-formed
