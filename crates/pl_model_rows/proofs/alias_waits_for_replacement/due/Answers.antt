use Rattle.std.proofs.Common.{refl}
use Rattle.pl_model_rows.proofs.OnHistories.{on_histories}
use Rattle.pl_model_rows.proofs.alias_waits_for_replacement.due.Goals as goal

pub returns-clause-decided : goal.returns-clause-decided
unfolding on_histories
returns-clause-decided c = refl

pub returns-clause-waits : goal.returns-clause-waits
unfolding on_histories
returns-clause-waits c = refl

pub returns-clause-meanwhile : goal.returns-clause-meanwhile
unfolding on_histories
returns-clause-meanwhile c = refl

pub returns-clause-then_kept : goal.returns-clause-then_kept
unfolding on_histories
returns-clause-then_kept c = refl

pub returns-clause-chosen : goal.returns-clause-chosen
unfolding on_histories
returns-clause-chosen c = refl
