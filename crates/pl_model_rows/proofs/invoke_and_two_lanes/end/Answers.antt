use Rattle.std.proofs.Common.{refl}
use Rattle.pl_model_rows.proofs.OnHistories.{on_histories}
use Rattle.pl_model_rows.proofs.invoke_and_two_lanes.end.Goals as goal

pub returns-clause-no_problem : goal.returns-clause-no_problem
unfolding on_histories
returns-clause-no_problem c = refl

pub returns-clause-closed : goal.returns-clause-closed
unfolding on_histories
returns-clause-closed c = refl

pub returns-clause-nothing_due : goal.returns-clause-nothing_due
unfolding on_histories
returns-clause-nothing_due c = refl
