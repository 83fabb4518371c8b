use Rattle.pl_model_laws.proofs.Rereadings.Rereading as proof
use Rattle.pl_model_laws.proofs.anew.anew_read.Goals as goal

pub returns : goal.returns
returns c = λ run history row entry is anew orderly calm quiet stands reads.
    proof.row-read run history anew is.some_children is.sound orderly calm quiet row entry stands reads
