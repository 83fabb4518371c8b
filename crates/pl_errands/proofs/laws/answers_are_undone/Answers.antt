use Rattle.pl_errands.proofs.Undoing as proof
use Rattle.pl_errands.proofs.laws.answers_are_undone.Goals as goal

pub returns : goal.returns
returns c = proof.undone
