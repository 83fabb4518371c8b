use Rattle.pl_model_laws.proofs.Saving.KeptSources as proof
use Rattle.pl_model_laws.proofs.kept.sent_sourced.Goals as goal

pub returns : goal.returns
returns c = proof.sent-sourced
