use Rattle.std.proofs.Common.{refl}
use Rattle.pl_model_rows.proofs.OnHistories.{on_histories}
use Rattle.pl_model_rows.proofs.preview_equals_up.preview.Goals as goal

pub returns-clause-chosen : goal.returns-clause-chosen
unfolding on_histories
returns-clause-chosen c = refl

pub returns-clause-begun : goal.returns-clause-begun
unfolding on_histories
returns-clause-begun c = refl

pub returns-clause-answer : goal.returns-clause-answer
unfolding on_histories
returns-clause-answer c = refl

pub returns-clause-saved : goal.returns-clause-saved
unfolding on_histories
returns-clause-saved c = refl

pub returns-clause-no_problem : goal.returns-clause-no_problem
unfolding on_histories
returns-clause-no_problem c = refl
