use Rattle.std.proofs.Common.{refl}
use Rattle.pl_model_rows.proofs.OnHistories.{on_histories}
use Rattle.pl_model_rows.proofs.first_create.asks.Goals as goal

pub returns-clause-config : goal.returns-clause-config
unfolding on_histories
returns-clause-config c = refl

pub returns-clause-configure : goal.returns-clause-configure
unfolding on_histories
returns-clause-configure c = refl

pub returns-clause-check : goal.returns-clause-check
unfolding on_histories
returns-clause-check c = refl

pub returns-clause-create : goal.returns-clause-create
unfolding on_histories
returns-clause-create c = refl

pub returns-clause-answer : goal.returns-clause-answer
unfolding on_histories
returns-clause-answer c = refl
