use Rattle.pl_checkpoint_text.proofs.ReadLawText as proof
use Rattle.pl_checkpoint_text.proofs.read_laws.text_is_read.Goals as goal

pub returns : goal.returns
returns c = proof.text_is_read
