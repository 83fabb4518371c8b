use Rattle.std.proofs.Common.{refl}
use Rattle.pl_model_rows.proofs.OnHistories.{on_histories}
use Rattle.pl_model_rows.proofs.refresh_prunes_and_clears.states.Goals as goal

pub returns-clause-c_gone : goal.returns-clause-c_gone
unfolding on_histories
returns-clause-c_gone c = refl

pub returns-clause-cleared : goal.returns-clause-cleared
unfolding on_histories
returns-clause-cleared c = refl

pub returns-clause-b_found : goal.returns-clause-b_found
unfolding on_histories
returns-clause-b_found c = refl

pub returns-clause-last : goal.returns-clause-last
unfolding on_histories
returns-clause-last c = refl

pub returns-clause-saved : goal.returns-clause-saved
unfolding on_histories
returns-clause-saved c = refl
