use Rattle.pl_checkpoint_text.proofs.TextTells as proof
use Rattle.pl_checkpoint_text.proofs.laws.text_tells_state.Goals as goal

pub returns : goal.returns
returns c = proof.text_tells_state
