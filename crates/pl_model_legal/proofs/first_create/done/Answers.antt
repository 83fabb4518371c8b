use Rattle.std.proofs.Common.{refl}
use Rattle.pl_model_rows.proofs.OnHistories.{on_histories}
use Rattle.pl_model_rows.specs.FirstCreate.{events, run}
use Rattle.pl_model_rows.specs.Prefixes.{known_end}
use Rattle.pl_model_legal.proofs.Finished.{all_answered, all_once}
use Rattle.pl_model_legal.proofs.first_create.done.Goals as goal

pub returns-clause-over : goal.returns-clause-over
unfolding on_histories
returns-clause-over c = refl

pub returns-clause-quiet : goal.returns-clause-quiet
unfolding on_histories
returns-clause-quiet c = record { closed = refl; nothing_due = refl; nothing_over = refl }

pub returns-clause-answered : goal.returns-clause-answered
unfolding on_histories
returns-clause-answered c = all_answered (known_end run events) refl

pub returns-clause-fulfils : goal.returns-clause-fulfils
unfolding on_histories
returns-clause-fulfils c = record { goals = all_once (known_end run events) refl refl; entries = refl; pending = refl }
