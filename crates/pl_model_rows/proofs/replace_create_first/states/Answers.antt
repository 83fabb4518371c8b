use Rattle.std.proofs.Common.{refl}
use Rattle.pl_model_rows.proofs.OnHistories.{on_histories}
use Rattle.pl_model_rows.proofs.replace_create_first.states.Goals as goal

pub returns-clause-creating : goal.returns-clause-creating
unfolding on_histories
returns-clause-creating c = refl

pub returns-clause-created : goal.returns-clause-created
unfolding on_histories
returns-clause-created c = refl

pub returns-clause-kept : goal.returns-clause-kept
unfolding on_histories
returns-clause-kept c = refl

pub returns-clause-deleting : goal.returns-clause-deleting
unfolding on_histories
returns-clause-deleting c = refl

pub returns-clause-deleted : goal.returns-clause-deleted
unfolding on_histories
returns-clause-deleted c = refl
