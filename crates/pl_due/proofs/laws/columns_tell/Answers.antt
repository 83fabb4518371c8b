use Rattle.pl_due.proofs.Summed as summed
use Rattle.pl_due.proofs.laws.columns_tell.Goals as goal

pub returns : goal.returns
returns c = summed.columns_tell c.plain_reads_same.ensures c.summary_knows_same.ensures c.summary_tells.ensures
