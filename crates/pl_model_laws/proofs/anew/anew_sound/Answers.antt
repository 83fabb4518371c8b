use Rattle.pl_model_laws.proofs.Rereadings.Pruning as pruning
use Rattle.pl_model_laws.proofs.anew.anew_sound.Goals as goal

pub returns : goal.returns
returns c = λ run history anew apart orderly. pruning.anew-sound run history anew apart orderly
