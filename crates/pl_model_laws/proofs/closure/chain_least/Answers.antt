use Rattle.pl_model_laws.proofs.Rows.Chains as proof
use Rattle.pl_model_laws.proofs.closure.chain_least.Goals as goal

pub returns : goal.returns
returns c = λ rows at property handed row h. proof.chain-least rows at property handed row h
