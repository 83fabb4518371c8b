use Rattle.pl_model_stays.proofs.Goals.KeptEntries as proof
use Rattle.pl_model_stays.proofs.kept.recorded_has_entry.Goals as goal

pub returns : goal.returns
returns c = proof.recorded-has-entry
