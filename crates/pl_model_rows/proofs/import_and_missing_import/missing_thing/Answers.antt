use Rattle.std.proofs.Common.{refl}
use Rattle.pl_model_rows.proofs.OnHistories.{on_histories}
use Rattle.pl_model_rows.proofs.import_and_missing_import.missing_thing.Goals as goal

pub returns-clause-told : goal.returns-clause-told
unfolding on_histories
returns-clause-told c = refl

pub returns-clause-state : goal.returns-clause-state
unfolding on_histories
returns-clause-state c = refl

pub returns-clause-saved : goal.returns-clause-saved
unfolding on_histories
returns-clause-saved c = refl

pub returns-clause-due : goal.returns-clause-due
unfolding on_histories
returns-clause-due c = refl
