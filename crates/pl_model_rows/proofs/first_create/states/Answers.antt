use Rattle.std.proofs.Common.{refl}
use Rattle.pl_model_rows.proofs.OnHistories.{on_histories}
use Rattle.pl_model_rows.proofs.first_create.states.Goals as goal

pub returns-clause-stack : goal.returns-clause-stack
unfolding on_histories
returns-clause-stack c = refl

pub returns-clause-provider : goal.returns-clause-provider
unfolding on_histories
returns-clause-provider c = refl

pub returns-clause-creating : goal.returns-clause-creating
unfolding on_histories
returns-clause-creating c = refl

pub returns-clause-created : goal.returns-clause-created
unfolding on_histories
returns-clause-created c = refl

pub returns-clause-saved : goal.returns-clause-saved
unfolding on_histories
returns-clause-saved c = refl

pub returns-clause-counted : goal.returns-clause-counted
unfolding on_histories
returns-clause-counted c = refl
