use Rattle.std.proofs.Common.{refl}
use Rattle.pl_model_rows.proofs.OnHistories.{on_histories}
use Rattle.pl_model_rows.proofs.destroy_retains_and_drops.due.Goals as goal

pub returns-clause-chosen : goal.returns-clause-chosen
unfolding on_histories
returns-clause-chosen c = refl

pub returns-clause-at_first : goal.returns-clause-at_first
unfolding on_histories
returns-clause-at_first c = refl

pub returns-clause-then_one : goal.returns-clause-then_one
unfolding on_histories
returns-clause-then_one c = refl

pub returns-clause-at_last : goal.returns-clause-at_last
unfolding on_histories
returns-clause-at_last c = refl

pub returns-clause-delete_asked : goal.returns-clause-delete_asked
unfolding on_histories
returns-clause-delete_asked c = refl

pub returns-clause-lane : goal.returns-clause-lane
unfolding on_histories
returns-clause-lane c = refl

pub returns-clause-other_lane : goal.returns-clause-other_lane
unfolding on_histories
returns-clause-other_lane c = refl
