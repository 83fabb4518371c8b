-- The chain is taken: the events may happen, and what they tell is spelled.
use Rattle.std.proofs.Common.{◌≡◌, true, [], drop, length, reverse, refl}
use Rattle.pl_value.proofs.Levels.{depth-Whole}
use Rattle.pl_model.specs.Legal.{IsOrderly}
use Rattle.pl_model_rows.proofs.OnHistories.{on_histories}
use Rattle.pl_model_rows.specs.TakesChain.{checking, deciding, events, replacing, run, taking}
use Rattle.pl_model_legal.specs.ChainDone.{all_events}
use Rattle.pl_model_legal.proofs.ChainParts.{checks, decides, ends, makes, replaces, takes}
use Rattle.pl_model_legal.proofs.Orderly.{are_formed, are_orderly, goes_on, orderly}
use Rattle.pl_model_legal.proofs.Spelled.{AreToldAgain}

-- ---- each part goes on from the one before it

to_decided : are_orderly run (reverse deciding) ≡ true
to_decided = goes_on run [] deciding (reverse deciding) refl decides refl

to_taken : are_orderly run (reverse taking) ≡ true
to_taken = goes_on run (reverse deciding) (drop (length deciding) taking) (reverse taking) to_decided takes refl

to_replaced : are_orderly run (reverse replacing) ≡ true
to_replaced = goes_on run (reverse taking) (drop (length taking) replacing) (reverse replacing) to_taken replaces refl

to_checked : are_orderly run (reverse checking) ≡ true
to_checked = goes_on run (reverse replacing) (drop (length replacing) checking) (reverse checking) to_replaced checks refl

to_made : are_orderly run (reverse events) ≡ true
to_made = goes_on run (reverse checking) (drop (length checking) events) (reverse events) to_checked makes refl

to_end : are_orderly run (reverse all_events) ≡ true
to_end = goes_on run (reverse events) (drop (length events) all_events) (reverse all_events) to_made ends refl

-- ---- the whole

formed : are_formed (reverse all_events) ≡ true
unfolding on_histories
formed = simp depth-Whole refl

pub is_orderly : IsOrderly run (reverse all_events)
is_orderly = orderly run (reverse all_events) to_end formed

pub told : AreToldAgain (reverse all_events) (reverse all_events)
told = refl
