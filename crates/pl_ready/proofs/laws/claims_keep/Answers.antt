use Rattle.pl_ready.proofs.Claimed.{claims_keep}
use Rattle.pl_ready.proofs.laws.claims_keep.Goals as goal

pub returns : goal.returns
returns c = claims_keep
