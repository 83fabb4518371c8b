use Rattle.std.proofs.Common.{refl}
use Rattle.pl_model_rows.proofs.OnHistories.{on_histories}
use Rattle.pl_model_rows.proofs.update_of_one_target.states.Goals as goal

pub returns-clause-updating : goal.returns-clause-updating
unfolding on_histories
returns-clause-updating c = refl

pub returns-clause-updated : goal.returns-clause-updated
unfolding on_histories
returns-clause-updated c = refl

pub returns-clause-last : goal.returns-clause-last
unfolding on_histories
returns-clause-last c = refl

pub returns-clause-saved : goal.returns-clause-saved
unfolding on_histories
returns-clause-saved c = refl
