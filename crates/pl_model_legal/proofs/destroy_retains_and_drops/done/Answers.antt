use Rattle.std.proofs.Common.{refl}
use Rattle.pl_model_rows.proofs.OnHistories.{on_histories}
use Rattle.pl_model_legal.proofs.destroy_retains_and_drops.done.Goals as goal

pub returns-clause-over : goal.returns-clause-over
unfolding on_histories
returns-clause-over c = refl

pub returns-clause-quiet : goal.returns-clause-quiet
unfolding on_histories
returns-clause-quiet c = record { closed = refl; nothing_due = refl; nothing_over = refl }
