use Rattle.std.proofs.Common.{refl}
use Rattle.pl_model_rows.proofs.OnHistories.{on_histories}
use Rattle.pl_model_rows.proofs.first_create.lanes.Goals as goal

pub returns-clause-first : goal.returns-clause-first
unfolding on_histories
returns-clause-first c = refl

pub returns-clause-same : goal.returns-clause-same
unfolding on_histories
returns-clause-same c = refl

pub returns-clause-other : goal.returns-clause-other
unfolding on_histories
returns-clause-other c = refl

pub returns-clause-create : goal.returns-clause-create
unfolding on_histories
returns-clause-create c = refl
