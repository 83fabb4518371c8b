use Rattle.std.proofs.Common.{refl}
use Rattle.pl_model_rows.proofs.OnHistories.{on_histories}
use Rattle.pl_model_rows.proofs.alias_renames_references.asks.Goals as goal

pub returns-clause-claim : goal.returns-clause-claim
unfolding on_histories
returns-clause-claim c = refl

pub returns-clause-diff : goal.returns-clause-diff
unfolding on_histories
returns-clause-diff c = refl

pub returns-clause-answer : goal.returns-clause-answer
unfolding on_histories
returns-clause-answer c = refl
