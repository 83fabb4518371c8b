use Rattle.pl_model_laws.proofs.Urns.Keeping as proof
use Rattle.pl_model_laws.proofs.apart.states_apart.Goals as goal

pub returns : goal.returns
returns c = λ run history names real other apart orderly.
    proof.states-apart run history names real apart orderly other
