use Rattle.std.proofs.Common.{refl}
use Rattle.pl_model_rows.proofs.OnHistories.{on_histories}
use Rattle.pl_model_rows.proofs.preview_equals_up.halted_invoke.Goals as goal

pub returns-clause-told : goal.returns-clause-told
unfolding on_histories
returns-clause-told c = refl

pub returns-clause-waits : goal.returns-clause-waits
unfolding on_histories
returns-clause-waits c = refl

pub returns-clause-then_due : goal.returns-clause-then_due
unfolding on_histories
returns-clause-then_due c = refl

pub returns-clause-answer : goal.returns-clause-answer
unfolding on_histories
returns-clause-answer c = refl
