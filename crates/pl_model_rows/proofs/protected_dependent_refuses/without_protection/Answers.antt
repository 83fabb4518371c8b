use Rattle.std.proofs.Common.{refl}
use Rattle.pl_model_rows.proofs.OnHistories.{on_histories}
use Rattle.pl_model_rows.proofs.protected_dependent_refuses.without_protection.Goals as goal

pub returns-clause-decided : goal.returns-clause-decided
unfolding on_histories
returns-clause-decided c = refl

pub returns-clause-due : goal.returns-clause-due
unfolding on_histories
returns-clause-due c = refl
