-- The chain is taken: at the end nothing is left to do.
use Rattle.std.proofs.Common.{◌≡◌, false, [], refl}
use Rattle.pl_model.specs.Due.{IsQuiet, due_work, has_open, over_limit}
use Rattle.pl_model_rows.proofs.OnHistories.{on_histories}
use Rattle.pl_model_rows.specs.Prefixes.{known_end}
use Rattle.pl_model_rows.specs.TakesChain.{run}
use Rattle.pl_model_legal.specs.ChainDone.{all_events}

closed : has_open (known_end run all_events) ≡ false
unfolding on_histories
closed = refl

nothing_due : due_work (known_end run all_events) ≡ []
unfolding on_histories
nothing_due = refl

nothing_over : over_limit (known_end run all_events) ≡ []
unfolding on_histories
nothing_over = refl

pub quiet : IsQuiet (known_end run all_events)
quiet = record { closed = closed; nothing_due = nothing_due; nothing_over = nothing_over }
