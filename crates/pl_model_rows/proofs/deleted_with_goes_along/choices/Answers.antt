use Rattle.std.proofs.Common.{refl}
use Rattle.pl_model_rows.proofs.OnHistories.{on_histories}
use Rattle.pl_model_rows.proofs.deleted_with_goes_along.choices.Goals as goal

pub returns-clause-chosen : goal.returns-clause-chosen
unfolding on_histories
returns-clause-chosen c = refl

pub returns-clause-asked : goal.returns-clause-asked
unfolding on_histories
returns-clause-asked c = refl
