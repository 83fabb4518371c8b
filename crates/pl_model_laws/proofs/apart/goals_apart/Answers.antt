use Rattle.pl_model_laws.proofs.Urns.Distinct as proof
use Rattle.pl_model_laws.proofs.apart.goals_apart.Goals as goal

pub returns : goal.returns
returns c = proof.goals-apart
