use Rattle.std.proofs.Common.{ℕ, List, [], ◌∷◌, codes, refl, le_refl}
use Rattle.pl_state.specs.declared.entry.Entry.{Entry}
use Rattle.pl_model.specs.Covers.{Covers}
use Rattle.pl_model_rows.proofs.OnHistories.{on_histories}
use Rattle.pl_model_rows.specs.CreateFirst.{old_a}
use Rattle.pl_model_rows.specs.Pieces.{a_urn, b_urn, creates, creating, deletes, deleting, fixed_at, k_one, new_thing, provider_entry, stack_entry, updates}
use Rattle.pl_model_rows.specs.Prefixes.{first_of, state_at}
use Rattle.pl_model_rows.specs.TakesChain.{c_urn, new_e, old_e, run, thing_on, updating_e}
use Rattle.pl_model_legal.specs.ChainDone.{all_events}
use Rattle.pl_model_legal.proofs.Rows.{sound}
use Rattle.pl_model_legal.proofs.replace_delete_first_takes_chain.covered.Goals as goal

abbrev old_b : Entry
old_b = thing_on (codes "b") (codes "b-1") a_urn

abbrev old_c : Entry
old_c = thing_on (codes "c") (codes "c-1") b_urn

abbrev old_d : Entry
old_d = thing_on (codes "d") (codes "d-1") c_urn

-- a thing of the chain before it is made anew
abbrev anew : List ℕ → List ℕ → Entry
anew name urn = record (new_thing name k_one) { dependencies = urn ∷ [] }

last_updated : Covers run (first_of all_events 13) (updates 2) (state_at run all_events 14)
unfolding on_histories
last_updated = (updating_e, refl, record { stands = (0, le_refl 1, refl); kind = refl })

deleted_d : Covers run (first_of all_events 21) (deletes 5) (state_at run all_events 22)
unfolding on_histories
deleted_d = (
  deleting old_d,
  refl,
  record {
    stands = (1, le_refl 2, refl);
    kind = (
      stack_entry ∷ provider_entry ∷ old_a ∷ old_b ∷ old_c ∷ old_e ∷ [],
      record {
        before = stack_entry ∷ provider_entry ∷ old_a ∷ old_b ∷ old_c ∷ [];
        after = old_e ∷ [];
        whole = refl;
        rest = refl;
      },
      sound (stack_entry ∷ provider_entry ∷ old_a ∷ old_b ∷ old_c ∷ old_e ∷ []) refl,
    );
  },
)

deleted_c : Covers run (first_of all_events 23) (deletes 4) (state_at run all_events 24)
unfolding on_histories
deleted_c = (
  deleting old_c,
  refl,
  record {
    stands = (1, le_refl 2, refl);
    kind = (
      stack_entry ∷ provider_entry ∷ old_a ∷ old_b ∷ old_e ∷ [],
      record {
        before = stack_entry ∷ provider_entry ∷ old_a ∷ old_b ∷ [];
        after = old_e ∷ [];
        whole = refl;
        rest = refl;
      },
      sound (stack_entry ∷ provider_entry ∷ old_a ∷ old_b ∷ old_e ∷ []) refl,
    );
  },
)

deleted_b : Covers run (first_of all_events 25) (deletes 3) (state_at run all_events 26)
unfolding on_histories
deleted_b = (
  deleting old_b,
  refl,
  record {
    stands = (1, le_refl 2, refl);
    kind = (
      stack_entry ∷ provider_entry ∷ old_a ∷ old_e ∷ [],
      record {
        before = stack_entry ∷ provider_entry ∷ old_a ∷ [];
        after = old_e ∷ [];
        whole = refl;
        rest = refl;
      },
      sound (stack_entry ∷ provider_entry ∷ old_a ∷ old_e ∷ []) refl,
    );
  },
)

deleted_a : Covers run (first_of all_events 29) (deletes 2) (state_at run all_events 30)
unfolding on_histories
deleted_a = (
  deleting old_a,
  refl,
  record {
    stands = (0, le_refl 1, refl);
    kind = (
      stack_entry ∷ provider_entry ∷ new_e ∷ [],
      record {
        before = stack_entry ∷ provider_entry ∷ new_e ∷ [];
        after = [];
        whole = refl;
        rest = refl;
      },
      sound (stack_entry ∷ provider_entry ∷ new_e ∷ []) refl,
    );
  },
)

created_a : Covers run (first_of all_events 31) (creates 3) (state_at run all_events 32)
unfolding on_histories
created_a = (creating (new_thing (codes "a") (fixed_at 2)), refl, record { stands = (0, le_refl 1, refl); kind = refl })

created_b : Covers run (first_of all_events 43) (creates 4) (state_at run all_events 44)
unfolding on_histories
created_b = (creating (anew (codes "b") a_urn), refl, record { stands = (0, le_refl 1, refl); kind = refl })

created_c : Covers run (first_of all_events 45) (creates 5) (state_at run all_events 46)
unfolding on_histories
created_c = (creating (anew (codes "c") b_urn), refl, record { stands = (0, le_refl 1, refl); kind = refl })

created_d : Covers run (first_of all_events 47) (creates 6) (state_at run all_events 48)
unfolding on_histories
created_d = (creating (anew (codes "d") c_urn), refl, record { stands = (0, le_refl 1, refl); kind = refl })

pub returns : goal.returns
returns c =
    (((((((((tt, last_updated), deleted_d), deleted_c), deleted_b), deleted_a), created_a), created_b), created_c), created_d)
