-- The chain is taken: part by part, each event may happen.
use Rattle.std.proofs.Common.{◌≡◌, true, [], drop, length, reverse, refl}
use Rattle.pl_model.specs.History.{known_of}
use Rattle.pl_model_rows.proofs.OnHistories.{on_histories}
use Rattle.pl_model_rows.specs.TakesChain.{checking, deciding, events, replacing, run, taking}
use Rattle.pl_model_legal.specs.ChainDone.{all_events}
use Rattle.pl_model_legal.proofs.Orderly.{go_on}

pub decides : go_on (known_of run []) deciding ≡ true
unfolding on_histories
decides = refl

pub takes : go_on (known_of run (reverse deciding)) (drop (length deciding) taking) ≡ true
unfolding on_histories
takes = refl

pub replaces : go_on (known_of run (reverse taking)) (drop (length taking) replacing) ≡ true
unfolding on_histories
replaces = refl

pub checks : go_on (known_of run (reverse replacing)) (drop (length replacing) checking) ≡ true
unfolding on_histories
checks = refl

pub makes : go_on (known_of run (reverse checking)) (drop (length checking) events) ≡ true
unfolding on_histories
makes = refl

pub ends : go_on (known_of run (reverse events)) (drop (length events) all_events) ≡ true
unfolding on_histories
ends = refl
