use Rattle.pl_ready.proofs.Claimed.{columns_keep}
use Rattle.pl_ready.proofs.laws.columns_keep.Goals as goal

pub returns : goal.returns
returns c = columns_keep
