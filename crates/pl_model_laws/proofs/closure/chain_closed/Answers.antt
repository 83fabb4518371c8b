use Rattle.pl_model_laws.proofs.Rows.Chains as proof
use Rattle.pl_model_laws.proofs.closure.chain_closed.Goals as goal

pub returns : goal.returns
returns c = proof.chain-closed
