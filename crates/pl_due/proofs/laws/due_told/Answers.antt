use Rattle.pl_due.proofs.Told as told
use Rattle.pl_due.proofs.laws.due_told.Goals as goal

pub returns : goal.returns
returns c = told.due_told
