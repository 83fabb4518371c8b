use Rattle.pl_records.proofs.Following as proof
use Rattle.pl_records.proofs.laws.records_follow.Goals as goal

pub returns : goal.returns
returns c = proof.records-follow
