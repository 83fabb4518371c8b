use Rattle.std.proofs.Common.{refl}
use Rattle.pl_model_rows.proofs.OnHistories.{on_histories}
use Rattle.pl_model_rows.proofs.replace_create_first.over_protected_row.Goals as goal

pub returns-clause-refused : goal.returns-clause-refused
unfolding on_histories
returns-clause-refused c = refl

pub returns-clause-told : goal.returns-clause-told
unfolding on_histories
returns-clause-told c = refl

pub returns-clause-state : goal.returns-clause-state
unfolding on_histories
returns-clause-state c = refl

pub returns-clause-due : goal.returns-clause-due
unfolding on_histories
returns-clause-due c = refl

pub returns-clause-answer : goal.returns-clause-answer
unfolding on_histories
returns-clause-answer c = refl
