use Rattle.std.proofs.Common.{refl}
use Rattle.pl_model_rows.proofs.OnHistories.{on_histories}
use Rattle.pl_model_rows.proofs.one_component.outputs.Goals as goal

pub returns-clause-state : goal.returns-clause-state
unfolding on_histories
returns-clause-state c = refl

pub returns-clause-saved : goal.returns-clause-saved
unfolding on_histories
returns-clause-saved c = refl

pub returns-clause-due : goal.returns-clause-due
unfolding on_histories
returns-clause-due c = refl

pub returns-clause-noted : goal.returns-clause-noted
unfolding on_histories
returns-clause-noted c = refl

pub returns-clause-without : goal.returns-clause-without
unfolding on_histories
returns-clause-without c = refl
