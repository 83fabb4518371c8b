use Rattle.std.proofs.Common.{refl}
use Rattle.pl_model_rows.proofs.OnHistories.{on_histories}
use Rattle.pl_model_rows.proofs.deleted_with_goes_along.states.Goals as goal

pub returns-clause-dropped : goal.returns-clause-dropped
unfolding on_histories
returns-clause-dropped c = refl

pub returns-clause-last : goal.returns-clause-last
unfolding on_histories
returns-clause-last c = refl

pub returns-clause-saved : goal.returns-clause-saved
unfolding on_histories
returns-clause-saved c = refl
