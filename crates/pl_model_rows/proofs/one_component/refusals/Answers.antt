use Rattle.std.proofs.Common.{refl}
use Rattle.pl_model_rows.proofs.OnHistories.{on_histories}
use Rattle.pl_model_rows.proofs.one_component.refusals.Goals as goal

pub returns-clause-twice : goal.returns-clause-twice
unfolding on_histories
returns-clause-twice c = refl

pub returns-clause-below_nothing : goal.returns-clause-below_nothing
unfolding on_histories
returns-clause-below_nothing c = refl

pub returns-clause-accepts : goal.returns-clause-accepts
unfolding on_histories
returns-clause-accepts c = refl
