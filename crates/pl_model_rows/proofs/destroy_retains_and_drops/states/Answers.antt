use Rattle.std.proofs.Common.{refl}
use Rattle.pl_model_rows.proofs.OnHistories.{on_histories}
use Rattle.pl_model_rows.proofs.destroy_retains_and_drops.states.Goals as goal

pub returns-clause-dropped : goal.returns-clause-dropped
unfolding on_histories
returns-clause-dropped c = refl

pub returns-clause-deleting : goal.returns-clause-deleting
unfolding on_histories
returns-clause-deleting c = refl

pub returns-clause-deleted : goal.returns-clause-deleted
unfolding on_histories
returns-clause-deleted c = refl

pub returns-clause-last : goal.returns-clause-last
unfolding on_histories
returns-clause-last c = refl

pub returns-clause-saved : goal.returns-clause-saved
unfolding on_histories
returns-clause-saved c = refl
