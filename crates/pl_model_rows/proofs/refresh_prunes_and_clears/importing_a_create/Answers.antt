use Rattle.std.proofs.Common.{refl}
use Rattle.pl_model_rows.proofs.OnHistories.{on_histories}
use Rattle.pl_model_rows.proofs.refresh_prunes_and_clears.importing_a_create.Goals as goal

pub returns-clause-at_first : goal.returns-clause-at_first
unfolding on_histories
returns-clause-at_first c = refl

pub returns-clause-then_read : goal.returns-clause-then_read
unfolding on_histories
returns-clause-then_read c = refl

pub returns-clause-read_asked : goal.returns-clause-read_asked
unfolding on_histories
returns-clause-read_asked c = refl

pub returns-clause-last : goal.returns-clause-last
unfolding on_histories
returns-clause-last c = refl

pub returns-clause-saved : goal.returns-clause-saved
unfolding on_histories
returns-clause-saved c = refl

pub returns-clause-missing : goal.returns-clause-missing
unfolding on_histories
returns-clause-missing c = refl

pub returns-clause-still_pending : goal.returns-clause-still_pending
unfolding on_histories
returns-clause-still_pending c = refl
