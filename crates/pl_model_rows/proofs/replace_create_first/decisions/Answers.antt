use Rattle.std.proofs.Common.{refl}
use Rattle.pl_model_rows.proofs.OnHistories.{on_histories}
use Rattle.pl_model_rows.proofs.replace_create_first.decisions.Goals as goal

pub returns-clause-replaced : goal.returns-clause-replaced
unfolding on_histories
returns-clause-replaced c = refl

pub returns-clause-kept : goal.returns-clause-kept
unfolding on_histories
returns-clause-kept c = refl

pub returns-clause-left : goal.returns-clause-left
unfolding on_histories
returns-clause-left c = refl

pub returns-clause-not_yet : goal.returns-clause-not_yet
unfolding on_histories
returns-clause-not_yet c = refl

pub returns-clause-doomed : goal.returns-clause-doomed
unfolding on_histories
returns-clause-doomed c = refl

pub returns-clause-saved : goal.returns-clause-saved
unfolding on_histories
returns-clause-saved c = refl
