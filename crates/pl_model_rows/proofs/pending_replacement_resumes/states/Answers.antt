use Rattle.std.proofs.Common.{refl}
use Rattle.pl_model_rows.proofs.OnHistories.{on_histories}
use Rattle.pl_model_rows.proofs.pending_replacement_resumes.states.Goals as goal

pub returns-clause-deleting : goal.returns-clause-deleting
unfolding on_histories
returns-clause-deleting c = refl

pub returns-clause-deleted : goal.returns-clause-deleted
unfolding on_histories
returns-clause-deleted c = refl

pub returns-clause-creating : goal.returns-clause-creating
unfolding on_histories
returns-clause-creating c = refl

pub returns-clause-made : goal.returns-clause-made
unfolding on_histories
returns-clause-made c = refl

pub returns-clause-saved : goal.returns-clause-saved
unfolding on_histories
returns-clause-saved c = refl
