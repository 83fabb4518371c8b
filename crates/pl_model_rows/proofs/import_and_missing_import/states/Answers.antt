use Rattle.std.proofs.Common.{refl}
use Rattle.pl_model_rows.proofs.OnHistories.{on_histories}
use Rattle.pl_model_rows.proofs.import_and_missing_import.states.Goals as goal

pub returns-clause-reading : goal.returns-clause-reading
unfolding on_histories
returns-clause-reading c = refl

pub returns-clause-found : goal.returns-clause-found
unfolding on_histories
returns-clause-found c = refl

pub returns-clause-saved : goal.returns-clause-saved
unfolding on_histories
returns-clause-saved c = refl

pub returns-clause-answer : goal.returns-clause-answer
unfolding on_histories
returns-clause-answer c = refl
