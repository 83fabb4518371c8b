use Rattle.std.proofs.Common.{◌≡◌, true, [], ◌∷◌, reverse, refl, inl}
use Rattle.pl_model.specs.Legal.{may_be_next}
use Rattle.pl_model_rows.proofs.OnHistories.{on_histories}
use Rattle.pl_model_rows.specs.TakesChain.{run}
use Rattle.pl_model_legal.specs.ChainDone.{all_events}
use Rattle.pl_model_legal.specs.Small.{spelling_of}
use Rattle.pl_model_legal.specs.Whole.{nothing_failed}
use Rattle.pl_model_legal.proofs.TakesChain.{is_orderly, told}
use Rattle.pl_model_legal.proofs.Given.{are_asked, lane_gave}
use Rattle.pl_model_legal.proofs.Taken.{ends_fit, host_took, lane_took, losses_fit, uncovered}
use Rattle.pl_model_legal.proofs.replace_delete_first_takes_chain.lines.Goals as goal

-- every operation has something to ask
asked : are_asked run (reverse all_events) ≡ true
unfolding on_histories
asked = refl

pub returns-clause-first : goal.returns-clause-first
unfolding on_histories
returns-clause-first c = record {
  gave = lane_gave run (spelling_of (reverse all_events)) (reverse all_events) 0 (reverse all_events) asked;
  took = lane_took (reverse all_events) nothing_failed 0 run (reverse all_events) told is_orderly;
  losses_fit = losses_fit (reverse all_events) nothing_failed 0 (reverse all_events) told;
}

pub returns-clause-second : goal.returns-clause-second
unfolding on_histories
returns-clause-second c = record {
  gave = lane_gave run (spelling_of (reverse all_events)) (reverse all_events) 1 (reverse all_events) asked;
  took = lane_took (reverse all_events) nothing_failed 1 run (reverse all_events) told is_orderly;
  losses_fit = losses_fit (reverse all_events) nothing_failed 1 (reverse all_events) told;
}

pub returns-clause-host : goal.returns-clause-host
unfolding on_histories
returns-clause-host c = record {
  took = host_took run (reverse all_events) may_be_next nothing_failed (reverse all_events) told is_orderly;
  gave = record { uncovered = uncovered ((1 ∷ 0 ∷ []) ∷ (2 ∷ 0 ∷ []) ∷ (3 ∷ 0 ∷ []) ∷ (4 ∷ 0 ∷ []) ∷ (5 ∷ 0 ∷ []) ∷ (6 ∷ 0 ∷ []) ∷ []); answered = inl refl };
  ends_fit = ends_fit run (reverse all_events) may_be_next nothing_failed (reverse all_events) told;
}
