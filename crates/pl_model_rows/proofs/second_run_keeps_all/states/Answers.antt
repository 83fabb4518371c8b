use Rattle.std.proofs.Common.{refl}
use Rattle.pl_model_rows.proofs.OnHistories.{on_histories}
use Rattle.pl_model_rows.proofs.second_run_keeps_all.states.Goals as goal

pub returns-clause-stack : goal.returns-clause-stack
unfolding on_histories
returns-clause-stack c = refl

pub returns-clause-provider : goal.returns-clause-provider
unfolding on_histories
returns-clause-provider c = refl

pub returns-clause-last : goal.returns-clause-last
unfolding on_histories
returns-clause-last c = refl

pub returns-clause-saved : goal.returns-clause-saved
unfolding on_histories
returns-clause-saved c = refl

pub returns-clause-without_number : goal.returns-clause-without_number
unfolding on_histories
returns-clause-without_number c = refl
