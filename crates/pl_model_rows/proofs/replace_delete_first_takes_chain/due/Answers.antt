use Rattle.std.proofs.Common.{refl}
use Rattle.pl_model_rows.proofs.OnHistories.{on_histories}
use Rattle.pl_model_rows.proofs.replace_delete_first_takes_chain.due.Goals as goal

pub returns-clause-decided : goal.returns-clause-decided
unfolding on_histories
returns-clause-decided c = refl

pub returns-clause-last_first : goal.returns-clause-last_first
unfolding on_histories
returns-clause-last_first c = refl

pub returns-clause-then_next : goal.returns-clause-then_next
unfolding on_histories
returns-clause-then_next c = refl

pub returns-clause-then_first : goal.returns-clause-then_first
unfolding on_histories
returns-clause-then_first c = refl

pub returns-clause-waits : goal.returns-clause-waits
unfolding on_histories
returns-clause-waits c = refl

pub returns-clause-updated : goal.returns-clause-updated
unfolding on_histories
returns-clause-updated c = refl

pub returns-clause-deleted : goal.returns-clause-deleted
unfolding on_histories
returns-clause-deleted c = refl
