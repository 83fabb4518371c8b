use Rattle.std.proofs.Common.{refl}
use Rattle.pl_model_rows.proofs.OnHistories.{on_histories}
use Rattle.pl_model_rows.specs.TakesChain.{run}
use Rattle.pl_model_legal.specs.ChainDone.{all_events}
use Rattle.pl_model_rows.specs.Prefixes.{known_end}
use Rattle.pl_model_legal.proofs.ChainQuiet.{quiet}
use Rattle.pl_model_legal.proofs.ChainRows.{fulfils}
use Rattle.pl_model_legal.proofs.Finished.{all_answered}
use Rattle.pl_model_legal.proofs.replace_delete_first_takes_chain.done.Goals as goal

pub returns-clause-over : goal.returns-clause-over
unfolding on_histories
returns-clause-over c = refl

pub returns-clause-quiet : goal.returns-clause-quiet
returns-clause-quiet c = quiet

pub returns-clause-answered : goal.returns-clause-answered
unfolding on_histories
returns-clause-answered c = all_answered (known_end run all_events) refl

pub returns-clause-fulfils : goal.returns-clause-fulfils
returns-clause-fulfils c = fulfils
