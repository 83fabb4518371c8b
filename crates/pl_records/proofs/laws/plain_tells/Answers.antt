use Rattle.pl_records.proofs.Plain as proof
use Rattle.pl_records.proofs.laws.plain_tells.Goals as goal

pub returns : goal.returns
returns c = proof.plain-tells
