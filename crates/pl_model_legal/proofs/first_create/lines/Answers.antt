use Rattle.std.proofs.Common.{[], ◌∷◌, reverse, refl, inl}
use Rattle.pl_model.specs.Legal.{may_be_next}
use Rattle.pl_model_rows.proofs.OnHistories.{on_histories}
use Rattle.pl_model_rows.specs.FirstCreate.{events, run}
use Rattle.pl_model_legal.specs.Small.{spelling_of}
use Rattle.pl_model_legal.specs.Whole.{nothing_failed}
use Rattle.pl_model_legal.proofs.FirstCreate.{is_orderly, told}
use Rattle.pl_model_legal.proofs.Given.{lane_gave}
use Rattle.pl_model_legal.proofs.Taken.{ends_fit, host_took, lane_took, losses_fit, uncovered}
use Rattle.pl_model_legal.proofs.first_create.lines.Goals as goal

pub returns-clause-lane : goal.returns-clause-lane
unfolding on_histories
returns-clause-lane c = record {
  gave = lane_gave run (spelling_of (reverse events)) (reverse events) 0 (reverse events) refl;
  took = lane_took (reverse events) nothing_failed 0 run (reverse events) told is_orderly;
  losses_fit = losses_fit (reverse events) nothing_failed 0 (reverse events) told;
}

pub returns-clause-host : goal.returns-clause-host
unfolding on_histories
returns-clause-host c = record {
  took = host_took run (reverse events) may_be_next nothing_failed (reverse events) told is_orderly;
  gave = record { uncovered = uncovered ((1 ∷ 0 ∷ []) ∷ (2 ∷ 0 ∷ []) ∷ []); answered = inl refl };
  ends_fit = ends_fit run (reverse events) may_be_next nothing_failed (reverse events) told;
}
