use Rattle.std.proofs.Common.{refl}
use Rattle.pl_model_rows.proofs.OnHistories.{on_histories}
use Rattle.pl_model_rows.proofs.refresh_prunes_and_clears.due.Goals as goal

pub returns-clause-chosen : goal.returns-clause-chosen
unfolding on_histories
returns-clause-chosen c = refl

pub returns-clause-rows : goal.returns-clause-rows
unfolding on_histories
returns-clause-rows c = refl

pub returns-clause-clear : goal.returns-clause-clear
unfolding on_histories
returns-clause-clear c = refl

pub returns-clause-read_asked : goal.returns-clause-read_asked
unfolding on_histories
returns-clause-read_asked c = refl
