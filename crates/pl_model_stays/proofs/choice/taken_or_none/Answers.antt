use Rattle.pl_model_stays.proofs.Work.Choosing as proof
use Rattle.pl_model_stays.proofs.choice.taken_or_none.Goals as goal

pub returns : goal.returns
returns c = proof.taken-or-none
