use Rattle.pl_model_laws.proofs.Endings.Quieting as proof
use Rattle.pl_model_laws.proofs.quiet.quiet_is_done.Goals as goal

pub returns : goal.returns
returns c = λ run history is real other orderly ended calm quiet.
    proof.quiet-is-done run history is.names real other is.some_children is.sound orderly ended calm quiet
