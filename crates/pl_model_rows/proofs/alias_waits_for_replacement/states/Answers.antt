use Rattle.std.proofs.Common.{refl}
use Rattle.pl_model_rows.proofs.OnHistories.{on_histories}
use Rattle.pl_model_rows.proofs.alias_waits_for_replacement.states.Goals as goal

pub returns-clause-held : goal.returns-clause-held
unfolding on_histories
returns-clause-held c = refl

pub returns-clause-made : goal.returns-clause-made
unfolding on_histories
returns-clause-made c = refl

pub returns-clause-kept : goal.returns-clause-kept
unfolding on_histories
returns-clause-kept c = refl

pub returns-clause-saved : goal.returns-clause-saved
unfolding on_histories
returns-clause-saved c = refl

pub returns-clause-no_problem : goal.returns-clause-no_problem
unfolding on_histories
returns-clause-no_problem c = refl
