use Rattle.std.proofs.Common.{refl}
use Rattle.pl_model_rows.proofs.OnHistories.{on_histories}
use Rattle.pl_model_rows.proofs.destroy_over_pending_replacement.drops.Goals as goal

pub returns-clause-chosen : goal.returns-clause-chosen
unfolding on_histories
returns-clause-chosen c = refl

pub returns-clause-asked : goal.returns-clause-asked
unfolding on_histories
returns-clause-asked c = refl

pub returns-clause-saved : goal.returns-clause-saved
unfolding on_histories
returns-clause-saved c = refl

pub returns-clause-last : goal.returns-clause-last
unfolding on_histories
returns-clause-last c = refl

pub returns-clause-no_problem : goal.returns-clause-no_problem
unfolding on_histories
returns-clause-no_problem c = refl
