use Rattle.std.proofs.Common.{reverse, refl}
use Rattle.pl_value.proofs.Levels.{depth-Whole}
use Rattle.pl_model_rows.proofs.OnHistories.{on_histories}
use Rattle.pl_model_rows.specs.TakesChain.{run}
use Rattle.pl_model_legal.specs.ChainDone.{all_events}
use Rattle.pl_model_legal.proofs.TakesChain.{is_orderly, told}
use Rattle.pl_model_legal.proofs.Rows.{is_run}
use Rattle.pl_model_legal.proofs.Spelled.{are_spelled, is_spelling}
use Rattle.pl_model_legal.proofs.replace_delete_first_takes_chain.legal.Goals as goal

pub returns-clause-run : goal.returns-clause-run
unfolding on_histories
returns-clause-run c = is_run run refl (simp depth-Whole refl) refl refl refl refl

pub returns-clause-spelling : goal.returns-clause-spelling
returns-clause-spelling c = is_spelling (reverse all_events)

pub returns-clause-legal : goal.returns-clause-legal
returns-clause-legal c = record { orderly = is_orderly; spelled = are_spelled run (reverse all_events) (reverse all_events) told is_orderly }
