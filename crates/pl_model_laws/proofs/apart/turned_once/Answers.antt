use Rattle.pl_model_laws.proofs.Providing.TurningProviders as proof
use Rattle.pl_model_laws.proofs.apart.turned_once.Goals as goal

pub returns : goal.returns
returns c = λ run history real apart orderly. proof.turned-once run history real apart orderly
