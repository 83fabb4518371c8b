use Rattle.std.proofs.Common.{refl}
use Rattle.pl_model_rows.proofs.OnHistories.{on_histories}
use Rattle.pl_model_rows.proofs.preview_equals_up.made_things.Goals as goal

pub returns-clause-state : goal.returns-clause-state
unfolding on_histories
returns-clause-state c = refl

pub returns-clause-saved : goal.returns-clause-saved
unfolding on_histories
returns-clause-saved c = refl

pub returns-clause-no_problem : goal.returns-clause-no_problem
unfolding on_histories
returns-clause-no_problem c = refl
