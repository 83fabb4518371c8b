use Rattle.pl_checkpoint_text.proofs.ReadLawSpelled as proof
use Rattle.pl_checkpoint_text.proofs.read_laws.spelled_is_read.Goals as goal

pub returns : goal.returns
returns c = proof.spelled_is_read
