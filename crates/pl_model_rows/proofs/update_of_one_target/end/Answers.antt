use Rattle.std.proofs.Common.{refl}
use Rattle.pl_model_rows.proofs.OnHistories.{on_histories}
use Rattle.pl_model_rows.proofs.update_of_one_target.end.Goals as goal

pub returns-clause-updated : goal.returns-clause-updated
unfolding on_histories
returns-clause-updated c = refl

pub returns-clause-kept : goal.returns-clause-kept
unfolding on_histories
returns-clause-kept c = refl

pub returns-clause-planned : goal.returns-clause-planned
unfolding on_histories
returns-clause-planned c = refl

pub returns-clause-no_problem : goal.returns-clause-no_problem
unfolding on_histories
returns-clause-no_problem c = refl

pub returns-clause-nothing_due : goal.returns-clause-nothing_due
unfolding on_histories
returns-clause-nothing_due c = refl
