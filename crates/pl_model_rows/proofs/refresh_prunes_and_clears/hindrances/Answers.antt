use Rattle.std.proofs.Common.{refl}
use Rattle.pl_model_rows.proofs.OnHistories.{on_histories}
use Rattle.pl_model_rows.proofs.refresh_prunes_and_clears.hindrances.Goals as goal

pub returns-clause-told : goal.returns-clause-told
unfolding on_histories
returns-clause-told c = refl

pub returns-clause-nothing_due : goal.returns-clause-nothing_due
unfolding on_histories
returns-clause-nothing_due c = refl
