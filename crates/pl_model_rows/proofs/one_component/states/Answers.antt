use Rattle.std.proofs.Common.{refl}
use Rattle.pl_model_rows.proofs.OnHistories.{on_histories}
use Rattle.pl_model_rows.proofs.one_component.states.Goals as goal

pub returns-clause-first : goal.returns-clause-first
unfolding on_histories
returns-clause-first c = refl

pub returns-clause-last : goal.returns-clause-last
unfolding on_histories
returns-clause-last c = refl

pub returns-clause-saved : goal.returns-clause-saved
unfolding on_histories
returns-clause-saved c = refl

pub returns-clause-planned : goal.returns-clause-planned
unfolding on_histories
returns-clause-planned c = refl
