-- The chain is taken: the entries of the state at the end are those of the goals.
use Rattle.std.proofs.Common.{◌≡◌, List, [], ◌∷◌, codes, reverse, refl, sym, ◌∙◌}
use Rattle.pl_state.specs.declared.entry.Entry.{Entry}
use Rattle.pl_model.specs.Entries.{new_entries}
use Rattle.pl_model.specs.Fulfilment.{AllOnce, Fulfils}
use Rattle.pl_model.specs.State.{state_of}
use Rattle.pl_model_rows.proofs.OnHistories.{on_histories}
use Rattle.pl_model_rows.specs.CreateFirst.{new_a}
use Rattle.pl_model_rows.specs.Pieces.{a_urn, b_urn, provider_entry, stack_entry}
use Rattle.pl_model_rows.specs.Prefixes.{known_end}
use Rattle.pl_model_rows.specs.TakesChain.{c_urn, new_e, run, thing_on}
use Rattle.pl_model_legal.specs.ChainDone.{all_events}
use Rattle.pl_model_legal.proofs.Finished.{all_once}

abbrev last_rows : List Entry
last_rows =
    stack_entry ∷ provider_entry ∷ new_e ∷ new_a ∷ thing_on (codes "b") (codes "b-2") a_urn
    ∷ thing_on (codes "c") (codes "c-2") b_urn ∷ thing_on (codes "d") (codes "d-2") c_urn ∷ []

in_state : (state_of run (reverse all_events)).entries ≡ last_rows
unfolding on_histories
in_state = refl

of_goals : new_entries (known_end run all_events) ≡ last_rows
unfolding on_histories
of_goals = refl

none_pending : (state_of run (reverse all_events)).pending ≡ []
unfolding on_histories
none_pending = refl

once : AllOnce (known_end run all_events)
unfolding on_histories
once = all_once (known_end run all_events) refl refl

pub fulfils : Fulfils run (state_of run (reverse all_events)) (reverse all_events)
fulfils = record { goals = once; entries = in_state ∙ sym of_goals; pending = none_pending }
