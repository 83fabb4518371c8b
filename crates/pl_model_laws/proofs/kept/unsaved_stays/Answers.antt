use Rattle.pl_model_laws.proofs.Saving.KeptState as proof
use Rattle.pl_model_laws.proofs.kept.unsaved_stays.Goals as goal

pub returns : goal.returns
returns c = proof.unsaved-stays
