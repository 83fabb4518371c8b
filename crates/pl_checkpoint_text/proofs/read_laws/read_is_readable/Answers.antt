use Rattle.pl_checkpoint_text.proofs.ReadLawState as proof
use Rattle.pl_checkpoint_text.proofs.read_laws.read_is_readable.Goals as goal

pub returns : goal.returns
returns c = proof.read_is_readable
