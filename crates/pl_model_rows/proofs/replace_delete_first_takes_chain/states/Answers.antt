use Rattle.std.proofs.Common.{refl}
use Rattle.pl_model_rows.proofs.OnHistories.{on_histories}
use Rattle.pl_model_rows.proofs.replace_delete_first_takes_chain.states.Goals as goal

pub returns-clause-taken : goal.returns-clause-taken
unfolding on_histories
returns-clause-taken c = refl

pub returns-clause-updated : goal.returns-clause-updated
unfolding on_histories
returns-clause-updated c = refl

pub returns-clause-deleted : goal.returns-clause-deleted
unfolding on_histories
returns-clause-deleted c = refl

pub returns-clause-made : goal.returns-clause-made
unfolding on_histories
returns-clause-made c = refl
