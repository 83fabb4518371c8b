use Rattle.std.proofs.Common.{refl}
use Rattle.pl_model_rows.proofs.OnHistories.{on_histories}
use Rattle.pl_model_rows.proofs.replace_create_first.asks.Goals as goal

pub returns-clause-diff : goal.returns-clause-diff
unfolding on_histories
returns-clause-diff c = refl

pub returns-clause-create : goal.returns-clause-create
unfolding on_histories
returns-clause-create c = refl

pub returns-clause-delete : goal.returns-clause-delete
unfolding on_histories
returns-clause-delete c = refl

pub returns-clause-lane : goal.returns-clause-lane
unfolding on_histories
returns-clause-lane c = refl

pub returns-clause-early : goal.returns-clause-early
unfolding on_histories
returns-clause-early c = refl
