use Rattle.pl_model_stays.proofs.Work.Choosing as proof
use Rattle.pl_model_stays.proofs.choice.checked_or_new.Goals as goal

pub returns : goal.returns
returns c = proof.checked-or-new
