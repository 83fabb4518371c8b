use Rattle.std.proofs.Common.{[], ◌∷◌, reverse, refl, inl, le_refl}
use Rattle.pl_model_rows.proofs.OnHistories.{on_histories}
use Rattle.pl_model_rows.specs.FirstCreate.{a_creating, events, run}
use Rattle.pl_model_legal.proofs.Saved.{saved}
use Rattle.pl_model_legal.proofs.first_create.saved.Goals as goal

pub returns-clause-marks : goal.returns-clause-marks
unfolding on_histories
returns-clause-marks c = saved run (reverse events) _ refl refl refl

pub returns-clause-story : goal.returns-clause-story
unfolding on_histories
returns-clause-story c = ((1 ∷ 0 ∷ []) ∷ (2 ∷ 0 ∷ []) ∷ (2 ∷ 1 ∷ []) ∷ (3 ∷ 0 ∷ []) ∷ [], inl refl, inl refl)

pub returns-clause-covered : goal.returns-clause-covered
unfolding on_histories
returns-clause-covered c = (tt, (a_creating, refl, record { stands = (0, le_refl 1, refl); kind = refl }))
