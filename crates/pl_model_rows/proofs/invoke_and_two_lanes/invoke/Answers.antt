use Rattle.std.proofs.Common.{refl}
use Rattle.pl_model_rows.proofs.OnHistories.{on_histories}
use Rattle.pl_model_rows.proofs.invoke_and_two_lanes.invoke.Goals as goal

pub returns-clause-asked : goal.returns-clause-asked
unfolding on_histories
returns-clause-asked c = refl

pub returns-clause-not_yet : goal.returns-clause-not_yet
unfolding on_histories
returns-clause-not_yet c = refl

pub returns-clause-due : goal.returns-clause-due
unfolding on_histories
returns-clause-due c = refl

pub returns-clause-answer : goal.returns-clause-answer
unfolding on_histories
returns-clause-answer c = refl
