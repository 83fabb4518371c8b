use Rattle.std.proofs.Common.{refl}
use Rattle.pl_model_rows.proofs.OnHistories.{on_histories}
use Rattle.pl_model_rows.proofs.update_of_one_target.asks.Goals as goal

pub returns-clause-check : goal.returns-clause-check
unfolding on_histories
returns-clause-check c = refl

pub returns-clause-update : goal.returns-clause-update
unfolding on_histories
returns-clause-update c = refl

pub returns-clause-other_check : goal.returns-clause-other_check
unfolding on_histories
returns-clause-other_check c = refl

pub returns-clause-begun : goal.returns-clause-begun
unfolding on_histories
returns-clause-begun c = refl
