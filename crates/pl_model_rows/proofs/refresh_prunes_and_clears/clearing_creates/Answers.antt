use Rattle.std.proofs.Common.{refl}
use Rattle.pl_model_rows.proofs.OnHistories.{on_histories}
use Rattle.pl_model_rows.proofs.refresh_prunes_and_clears.clearing_creates.Goals as goal

pub returns-clause-at_first : goal.returns-clause-at_first
unfolding on_histories
returns-clause-at_first c = refl

pub returns-clause-cleared : goal.returns-clause-cleared
unfolding on_histories
returns-clause-cleared c = refl

pub returns-clause-last : goal.returns-clause-last
unfolding on_histories
returns-clause-last c = refl

pub returns-clause-saved : goal.returns-clause-saved
unfolding on_histories
returns-clause-saved c = refl

pub returns-clause-nothing_due : goal.returns-clause-nothing_due
unfolding on_histories
returns-clause-nothing_due c = refl
