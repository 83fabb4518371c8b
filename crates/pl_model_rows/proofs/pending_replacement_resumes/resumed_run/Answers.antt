use Rattle.std.proofs.Common.{refl}
use Rattle.pl_model_rows.proofs.OnHistories.{on_histories}
use Rattle.pl_model_rows.proofs.pending_replacement_resumes.resumed_run.Goals as goal

pub returns-clause-asked : goal.returns-clause-asked
unfolding on_histories
returns-clause-asked c = refl

pub returns-clause-decided : goal.returns-clause-decided
unfolding on_histories
returns-clause-decided c = refl

pub returns-clause-saved : goal.returns-clause-saved
unfolding on_histories
returns-clause-saved c = refl

pub returns-clause-last : goal.returns-clause-last
unfolding on_histories
returns-clause-last c = refl

pub returns-clause-planned : goal.returns-clause-planned
unfolding on_histories
returns-clause-planned c = refl

pub returns-clause-nothing_due : goal.returns-clause-nothing_due
unfolding on_histories
returns-clause-nothing_due c = refl
