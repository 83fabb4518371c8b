-- The first creation: its events may happen, and what they tell is spelled.
use Rattle.std.proofs.Common.{◌≡◌, true, reverse, refl}
use Rattle.pl_value.proofs.Levels.{depth-Whole}
use Rattle.pl_model.specs.Legal.{IsOrderly}
use Rattle.pl_model_rows.proofs.OnHistories.{on_histories}
use Rattle.pl_model_rows.specs.FirstCreate.{events, run}
use Rattle.pl_model_legal.proofs.Orderly.{are_formed, are_orderly, orderly}
use Rattle.pl_model_legal.proofs.Spelled.{AreToldAgain}

formed : are_formed (reverse events) ≡ true
unfolding on_histories
formed = simp depth-Whole refl

may : are_orderly run (reverse events) ≡ true
unfolding on_histories
may = refl

pub is_orderly : IsOrderly run (reverse events)
is_orderly = orderly run (reverse events) may formed

pub told : AreToldAgain (reverse events) (reverse events)
told = refl
