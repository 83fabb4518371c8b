use Rattle.pl_model_stays.proofs.Goals.Recorded as proof
use Rattle.pl_model_stays.proofs.order.recorded_after_references.Goals as goal

pub returns : goal.returns
returns c = proof.recorded-after-references
