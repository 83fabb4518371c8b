use Rattle.std.proofs.Common.{reverse, refl, inl}
use Rattle.pl_model_rows.proofs.OnHistories.{on_histories}
use Rattle.pl_model_rows.specs.TakesChain.{run}
use Rattle.pl_model_legal.specs.ChainDone.{all_events, texts}
use Rattle.pl_model_legal.proofs.Saved.{saved}
use Rattle.pl_model_legal.proofs.replace_delete_first_takes_chain.saved.Goals as goal

pub returns-clause-marks : goal.returns-clause-marks
unfolding on_histories
returns-clause-marks c = saved run (reverse all_events) _ refl refl refl

pub returns-clause-story : goal.returns-clause-story
unfolding on_histories
returns-clause-story c = (texts, inl refl, inl refl)
