use Rattle.std.proofs.Common.{refl}
use Rattle.pl_model_rows.proofs.OnHistories.{on_histories}
use Rattle.pl_model_rows.proofs.alias_waits_for_replacement.failed_create.Goals as goal

pub returns-clause-state : goal.returns-clause-state
unfolding on_histories
returns-clause-state c = refl

pub returns-clause-told : goal.returns-clause-told
unfolding on_histories
returns-clause-told c = refl

pub returns-clause-created : goal.returns-clause-created
unfolding on_histories
returns-clause-created c = refl

pub returns-clause-kept : goal.returns-clause-kept
unfolding on_histories
returns-clause-kept c = refl

pub returns-clause-due : goal.returns-clause-due
unfolding on_histories
returns-clause-due c = refl

pub returns-clause-planned : goal.returns-clause-planned
unfolding on_histories
returns-clause-planned c = refl
