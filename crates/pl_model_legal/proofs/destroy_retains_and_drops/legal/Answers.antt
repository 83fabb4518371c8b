use Rattle.std.proofs.Common.{reverse, refl}
use Rattle.pl_value.proofs.Levels.{depth-Whole}
use Rattle.pl_model_rows.proofs.OnHistories.{on_histories}
use Rattle.pl_model_rows.specs.Destroyed.{events, run}
use Rattle.pl_model_legal.proofs.Destroyed.{is_orderly, told}
use Rattle.pl_model_legal.proofs.Rows.{is_run}
use Rattle.pl_model_legal.proofs.Spelled.{are_spelled, is_spelling}
use Rattle.pl_model_legal.proofs.destroy_retains_and_drops.legal.Goals as goal

pub returns-clause-run : goal.returns-clause-run
unfolding on_histories
returns-clause-run c = is_run run refl (simp depth-Whole refl) refl refl refl refl

pub returns-clause-spelling : goal.returns-clause-spelling
returns-clause-spelling c = is_spelling (reverse events)

pub returns-clause-legal : goal.returns-clause-legal
returns-clause-legal c = record { orderly = is_orderly; spelled = are_spelled run (reverse events) (reverse events) told is_orderly }
