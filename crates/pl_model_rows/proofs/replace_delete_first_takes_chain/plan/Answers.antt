use Rattle.std.proofs.Common.{refl}
use Rattle.pl_model_rows.proofs.OnHistories.{on_histories}
use Rattle.pl_model_rows.proofs.replace_delete_first_takes_chain.plan.Goals as goal

pub returns : goal.returns
unfolding on_histories
returns c = refl
