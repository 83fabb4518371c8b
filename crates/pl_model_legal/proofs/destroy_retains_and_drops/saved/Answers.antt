use Rattle.std.proofs.Common.{[], ◌∷◌, reverse, refl, inl, le_refl}
use Rattle.pl_model_rows.proofs.OnHistories.{on_histories}
use Rattle.pl_model_rows.specs.Destroyed.{events, run, x_deleting}
use Rattle.pl_model_rows.specs.Pieces.{provider_entry, stack_entry}
use Rattle.pl_model_legal.proofs.Rows.{sound}
use Rattle.pl_model_legal.proofs.Saved.{saved}
use Rattle.pl_model_legal.proofs.destroy_retains_and_drops.saved.Goals as goal

pub returns-clause-marks : goal.returns-clause-marks
unfolding on_histories
returns-clause-marks c = saved run (reverse events) _ refl refl refl

pub returns-clause-story : goal.returns-clause-story
unfolding on_histories
returns-clause-story c =
    ((3 ∷ 0 ∷ []) ∷ (3 ∷ 1 ∷ []) ∷ (2 ∷ 0 ∷ []) ∷ (1 ∷ 0 ∷ []) ∷ (0 ∷ 0 ∷ []) ∷ [], inl refl, inl refl)

pub returns-clause-covered : goal.returns-clause-covered
unfolding on_histories
returns-clause-covered c = (
  tt,
  (
    x_deleting,
    refl,
    record {
      stands = (0, le_refl 1, refl);
      kind = (
        stack_entry ∷ provider_entry ∷ [],
        record { before = stack_entry ∷ provider_entry ∷ []; after = []; whole = refl; rest = refl },
        sound (stack_entry ∷ provider_entry ∷ []) refl,
      );
    },
  ),
)
