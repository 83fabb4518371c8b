use Rattle.std.proofs.Common.{refl}
use Rattle.pl_model_rows.proofs.OnHistories.{on_histories}
use Rattle.pl_model_rows.proofs.replace_delete_first_takes_chain.made_anew.Goals as goal

pub returns-clause-check : goal.returns-clause-check
unfolding on_histories
returns-clause-check c = refl

pub returns-clause-decided : goal.returns-clause-decided
unfolding on_histories
returns-clause-decided c = refl

pub returns-clause-due : goal.returns-clause-due
unfolding on_histories
returns-clause-due c = refl

pub returns-clause-then_next : goal.returns-clause-then_next
unfolding on_histories
returns-clause-then_next c = refl

pub returns-clause-last : goal.returns-clause-last
unfolding on_histories
returns-clause-last c = refl
