use Rattle.std.proofs.Common.{refl}
use Rattle.pl_model_rows.proofs.OnHistories.{on_histories}
use Rattle.pl_model_rows.proofs.destroy_over_pending_replacement.otherwise.Goals as goal

pub returns-clause-nothing_read : goal.returns-clause-nothing_read
unfolding on_histories
returns-clause-nothing_read c = refl

pub returns-clause-dropped : goal.returns-clause-dropped
unfolding on_histories
returns-clause-dropped c = refl

pub returns-clause-last : goal.returns-clause-last
unfolding on_histories
returns-clause-last c = refl
