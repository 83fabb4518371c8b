use Rattle.std.proofs.Common.{refl}
use Rattle.pl_model_rows.proofs.OnHistories.{on_histories}
use Rattle.pl_model_rows.proofs.deleted_with_goes_along.otherwise.Goals as goal

pub returns-clause-by_itself : goal.returns-clause-by_itself
unfolding on_histories
returns-clause-by_itself c = refl

pub returns-clause-due : goal.returns-clause-due
unfolding on_histories
returns-clause-due c = refl

pub returns-clause-no_provider : goal.returns-clause-no_provider
unfolding on_histories
returns-clause-no_provider c = refl

pub returns-clause-still_dropped : goal.returns-clause-still_dropped
unfolding on_histories
returns-clause-still_dropped c = refl
