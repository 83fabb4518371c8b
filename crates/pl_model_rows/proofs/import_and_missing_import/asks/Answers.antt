use Rattle.std.proofs.Common.{refl}
use Rattle.pl_model_rows.proofs.OnHistories.{on_histories}
use Rattle.pl_model_rows.proofs.import_and_missing_import.asks.Goals as goal

pub returns-clause-asked : goal.returns-clause-asked
unfolding on_histories
returns-clause-asked c = refl

pub returns-clause-decided : goal.returns-clause-decided
unfolding on_histories
returns-clause-decided c = refl

pub returns-clause-counted : goal.returns-clause-counted
unfolding on_histories
returns-clause-counted c = refl
