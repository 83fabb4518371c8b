use Rattle.pl_due.proofs.Summed as summed
use Rattle.pl_due.proofs.laws.columns_know.Goals as goal

pub returns : goal.returns
returns c = summed.columns_know
