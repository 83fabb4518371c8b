use Rattle.std.proofs.Common.{refl}
use Rattle.pl_model_rows.proofs.OnHistories.{on_histories}
use Rattle.pl_model_rows.proofs.invoke_and_two_lanes.lanes.Goals as goal

pub returns-clause-no_work : goal.returns-clause-no_work
unfolding on_histories
returns-clause-no_work c = refl

pub returns-clause-second : goal.returns-clause-second
unfolding on_histories
returns-clause-second c = refl

pub returns-clause-on_next : goal.returns-clause-on_next
unfolding on_histories
returns-clause-on_next c = refl

pub returns-clause-not_on_first : goal.returns-clause-not_on_first
unfolding on_histories
returns-clause-not_on_first c = refl

pub returns-clause-one_alone : goal.returns-clause-one_alone
unfolding on_histories
returns-clause-one_alone c = refl

pub returns-clause-no_third : goal.returns-clause-no_third
unfolding on_histories
returns-clause-no_third c = refl

pub returns-clause-free_one : goal.returns-clause-free_one
unfolding on_histories
returns-clause-free_one c = refl

pub returns-clause-busy_one : goal.returns-clause-busy_one
unfolding on_histories
returns-clause-busy_one c = refl
