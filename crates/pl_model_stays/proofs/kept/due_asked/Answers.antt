use Rattle.pl_model_stays.proofs.Work.KeptDue as proof
use Rattle.pl_model_stays.proofs.kept.due_asked.Goals as goal

pub returns : goal.returns
returns c = proof.due-asked
