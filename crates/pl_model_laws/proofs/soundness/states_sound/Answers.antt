use Rattle.pl_model_laws.proofs.References.Founding as founding
use Rattle.pl_model_stays.proofs.Goals.Recorded as recorded
use Rattle.pl_model_laws.proofs.soundness.states_sound.Goals as goal

pub returns : goal.returns
returns c = λ run history is real other orderly.
    founding.states-sound run history is.names real is.sound is.providers orderly recorded.recorded-after-references other
