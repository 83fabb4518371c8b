use Rattle.std.proofs.Common.{refl}
use Rattle.pl_model_rows.proofs.OnHistories.{on_histories}
use Rattle.pl_model_rows.proofs.pending_replacement_resumes.choices.Goals as goal

pub returns : goal.returns
unfolding on_histories
returns c = refl
