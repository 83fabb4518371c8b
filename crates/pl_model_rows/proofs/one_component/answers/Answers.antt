use Rattle.std.proofs.Common.{refl}
use Rattle.pl_model_rows.proofs.OnHistories.{on_histories}
use Rattle.pl_model_rows.proofs.one_component.answers.Goals as goal

pub returns-clause-stack : goal.returns-clause-stack
unfolding on_histories
returns-clause-stack c = refl

pub returns-clause-site : goal.returns-clause-site
unfolding on_histories
returns-clause-site c = refl

pub returns-clause-early : goal.returns-clause-early
unfolding on_histories
returns-clause-early c = refl
