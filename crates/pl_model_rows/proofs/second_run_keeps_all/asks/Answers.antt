use Rattle.std.proofs.Common.{refl}
use Rattle.pl_model_rows.proofs.OnHistories.{on_histories}
use Rattle.pl_model_rows.proofs.second_run_keeps_all.asks.Goals as goal

pub returns-clause-config : goal.returns-clause-config
unfolding on_histories
returns-clause-config c = refl

pub returns-clause-check : goal.returns-clause-check
unfolding on_histories
returns-clause-check c = refl

pub returns-clause-diff : goal.returns-clause-diff
unfolding on_histories
returns-clause-diff c = refl

pub returns-clause-answer : goal.returns-clause-answer
unfolding on_histories
returns-clause-answer c = refl

pub returns-clause-goals_lane : goal.returns-clause-goals_lane
unfolding on_histories
returns-clause-goals_lane c = refl

pub returns-clause-rows_lane : goal.returns-clause-rows_lane
unfolding on_histories
returns-clause-rows_lane c = refl
