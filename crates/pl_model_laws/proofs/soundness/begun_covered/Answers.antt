use Rattle.pl_model_laws.proofs.Saving.Covered as proof
use Rattle.pl_model_laws.proofs.soundness.begun_covered.Goals as goal

pub returns : goal.returns
returns c = λ run event past ticket lane about is real other orderly says covered.
    proof.begun-covered run event past ticket lane is.names real other is.sound is.providers orderly about says covered
