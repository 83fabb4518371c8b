use Rattle.std.proofs.Common.{refl}
use Rattle.pl_model_rows.proofs.OnHistories.{on_histories}
use Rattle.pl_model_rows.proofs.invoke_and_two_lanes.states.Goals as goal

pub returns-clause-both : goal.returns-clause-both
unfolding on_histories
returns-clause-both c = refl

pub returns-clause-second : goal.returns-clause-second
unfolding on_histories
returns-clause-second c = refl

pub returns-clause-last : goal.returns-clause-last
unfolding on_histories
returns-clause-last c = refl

pub returns-clause-saved : goal.returns-clause-saved
unfolding on_histories
returns-clause-saved c = refl
