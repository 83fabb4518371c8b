use Rattle.pl_model_stays.proofs.Goals.KeptEntries as proof
use Rattle.pl_model_stays.proofs.kept.entries_stay.Goals as goal

pub returns : goal.returns
returns c = proof.entries-stay
