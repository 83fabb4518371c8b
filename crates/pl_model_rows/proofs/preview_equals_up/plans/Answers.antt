use Rattle.std.proofs.Common.{refl}
use Rattle.pl_model_rows.proofs.OnHistories.{on_histories}
use Rattle.pl_model_rows.proofs.preview_equals_up.plans.Goals as goal

pub returns-clause-same : goal.returns-clause-same
unfolding on_histories
returns-clause-same c = refl

pub returns-clause-planned : goal.returns-clause-planned
unfolding on_histories
returns-clause-planned c = refl
