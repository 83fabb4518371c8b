use Rattle.pl_model_stays.proofs.Work.KeptDue as proof
use Rattle.pl_model_stays.proofs.kept.due_opens.Goals as goal

pub returns : goal.returns
returns c = proof.due-opens
