use Rattle.std.proofs.Common.{refl}
use Rattle.pl_model_rows.proofs.OnHistories.{on_histories}
use Rattle.pl_model_rows.proofs.second_run_keeps_all.over_odd_rows.Goals as goal

pub returns-clause-with_number : goal.returns-clause-with_number
unfolding on_histories
returns-clause-with_number c = refl

pub returns-clause-at_first : goal.returns-clause-at_first
unfolding on_histories
returns-clause-at_first c = refl

pub returns-clause-state : goal.returns-clause-state
unfolding on_histories
returns-clause-state c = refl

pub returns-clause-stack_kept : goal.returns-clause-stack_kept
unfolding on_histories
returns-clause-stack_kept c = refl
