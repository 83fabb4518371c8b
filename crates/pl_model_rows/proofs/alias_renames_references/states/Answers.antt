use Rattle.std.proofs.Common.{refl}
use Rattle.pl_model_rows.proofs.OnHistories.{on_histories}
use Rattle.pl_model_rows.proofs.alias_renames_references.states.Goals as goal

pub returns-clause-before : goal.returns-clause-before
unfolding on_histories
returns-clause-before c = refl

pub returns-clause-kept : goal.returns-clause-kept
unfolding on_histories
returns-clause-kept c = refl

pub returns-clause-last : goal.returns-clause-last
unfolding on_histories
returns-clause-last c = refl

pub returns-clause-saved : goal.returns-clause-saved
unfolding on_histories
returns-clause-saved c = refl

pub returns-clause-everywhere : goal.returns-clause-everywhere
unfolding on_histories
returns-clause-everywhere c = refl

pub returns-clause-others : goal.returns-clause-others
unfolding on_histories
returns-clause-others c = refl
