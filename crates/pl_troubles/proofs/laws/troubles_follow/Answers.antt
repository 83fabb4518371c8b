use Rattle.pl_troubles.proofs.Following as proof
use Rattle.pl_troubles.proofs.laws.troubles_follow.Goals as goal

pub returns : goal.returns
returns c = proof.troubles-follow
