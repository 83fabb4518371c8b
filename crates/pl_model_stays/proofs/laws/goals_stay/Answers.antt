use Rattle.pl_model_stays.proofs.Lists.Growing as proof
use Rattle.pl_model_stays.proofs.laws.goals_stay.Goals as goal

pub returns : goal.returns
returns c = proof.goals-stay
