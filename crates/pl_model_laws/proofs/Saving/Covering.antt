-- What the entries have of an operation that is begun: the references of what is made or changed, and the row that goes,
-- without which the others are sound.
use Rattle.std.proofs.Common.{◌≡◌, ℕ, zero, suc, ◌+◌, ◌<◌, ◌≤◌, ◌==◌, Bool, true, false, not, ◌&&◌, ◌||◌, List, [], ◌∷◌, ◌++◌, filter, filter_map, length, slice_get, Option, Some, None, option_and_then, refl, sym, ◌∙◌, ap, subst, inl, inr, ◌⊎◌, arith, bytes_eq, eq-or-lt_of_le}
use Rattle.std.proofs.lemmas.Bool.Decides.{nat_tests}
use Rattle.std.proofs.lemmas.List.{append_assoc}
use Rattle.std.proofs.lemmas.List.Elements.{filter_map-append}
use Rattle.std.proofs.lemmas.List.Folds.{list_any-append}
use Rattle.std.proofs.lemmas.Option.{slice_get_within}
use Rattle.std.specs.List.{cons_option, list_all, list_any, range_with_len}
use Rattle.pl_lemmas.proofs.Truth.{and_left, and_right}
use Rattle.pl_lemmas.proofs.Options.{some_there, passing}
use Rattle.pl_lemmas.proofs.Numbers.{same_number, equal_numbers}
use Rattle.pl_lemmas.proofs.Lists.{all_weaker}
use Rattle.pl_lemmas.proofs.Each.{Each, Pairwise}
use Rattle.pl_state.specs.Chain.{refers_to}
use Rattle.pl_state.specs.References.{finds_references, further_urns, has_urn, is_provider, optional_refs}
use Rattle.pl_sound.specs.Sound.{IsSound, is_met}
use Rattle.pl_state.specs.declared.entry.Entry.{Entry}
use Rattle.pl_state.specs.declared.fault.Missing.TheVariants.{Parent, Provider}
use Rattle.pl_state.specs.declared.goal.Goal.{Goal}
use Rattle.pl_events.specs.declared.event.Event.{Event}
use Rattle.pl_model.specs.declared.fixed.Fixed.{Fixed}
use Rattle.pl_model.specs.Run.{HasNames, is_preview, is_refresh, rows_of}
use Rattle.pl_model.specs.Claims.{goal_number}
use Rattle.pl_model.specs.Covers.{IsWithout}
use Rattle.pl_lemmas.specs.Words.{none_or}
use Rattle.pl_model.specs.Due.{is_delete_ready, is_recorded_urn, is_removable, references_recorded}
use Rattle.pl_model.specs.Entries.{new_entries, old_entries, old_row, recorded_entry, reference_to, row_now}
use Rattle.pl_model.specs.History.{known_of}
use Rattle.pl_model.specs.Known.{Known, goal_at, is_recorded, provider_id}
use Rattle.pl_model.specs.Legal.{IsOrderly}
use Rattle.pl_model.specs.Recording.{recorded_of}
use Rattle.pl_model.specs.Rows.{has_dependents, is_doomed, is_left, row_numbers}
use Rattle.pl_model.specs.RunData.{NameProviders}
use Rattle.pl_model_stays.proofs.Lists.Growing.{run_of}
use Rattle.pl_model_stays.proofs.Lists.Pairs.{pairs-all}
use Rattle.pl_model_stays.proofs.Goals.Recorded.{recorded-after-references, recorded-held}
use Rattle.pl_model_stays.proofs.Work.Listing.{removable-parts}
use Rattle.pl_model_laws.specs.Apart.{AreApart, KeepsApart}
use Rattle.pl_model_laws.proofs.Rows.Dependents.{depended}
use Rattle.pl_model_laws.proofs.References.Founding.{all_back, held, old_is}
use Rattle.pl_model_laws.proofs.Urns.Keeping.{merged_pairs}
use Rattle.pl_model_laws.proofs.Providing.Provided.{providers-provide}
use Rattle.pl_model_laws.proofs.Providing.Providers.{provider-id}
use Rattle.pl_model_laws.proofs.References.Referring.{ProvidersProvide, Standing, entry_met, further_of, is_named, number_found, recorded_stands, reference_met, same_wants}
use Rattle.pl_model_laws.proofs.References.Sounding.{sound-apart, sound-from}
use Rattle.pl_model_laws.proofs.References.Wants.{found_by_met, met_by_tests}

-- ---- references

module _ (run : Fixed) (history : List Event) (names : HasNames run)
    (orderly : IsOrderly run history) where
  abbrev known : Known
  known = known_of run history

  abbrev entries : List Entry
  entries = new_entries (known_of run history) ++ old_entries (known_of run history)

  provide : ProvidersProvide known
  provide = providers-provide run history names orderly

  standing_of : (number : ℕ) (goal : Goal) → is_recorded known number ≡ true → goal_at known number ≡ Some goal → Standing known number goal
  standing_of = recorded_stands run history orderly (held run history orderly provide) recorded-after-references provide

  -- a test that the entry of a recorded goal passes
  among_new : (test : Entry → Bool) (number : ℕ) (row : Entry) → is_recorded known number ≡ true → recorded_entry known number ≡ Some row
      → test row ≡ true → list_any test entries ≡ true
  among_new test number row recorded is passes =
      list_any-append test (new_entries known) (old_entries known)
      ∙ ap (λ (b : Bool). b || list_any test (old_entries known))
      (entry_met test (recorded_entry known) (recorded_of known.history) number row recorded is passes)

  -- a URN whose goal is recorded is that of an entry
  urn_found : (urn : List ℕ) → is_recorded_urn known urn ≡ true → list_any (has_urn urn) entries ≡ true
  urn_found urn h =
      let found = passing (is_recorded known) (goal_number known.goals urn) h in
      let owner = number_found known.goals urn found.0 found.1 in
      let standing = standing_of found.0 owner.0 found.2 owner.1 in
      among_new (has_urn urn) found.0 standing.row found.2 standing.entry
      (ap (λ (text : List ℕ). bytes_eq text urn) standing.stands.urn ∙ owner.2)

  -- the reference to a recorded provider is to an entry
  provider_found : (number own : ℕ) (goal : Goal) → goal_at known number ≡ Some goal → goal.provider ≡ Some own → is_recorded known own ≡ true
      → list_all (is_met entries) (optional_refs Provider (reference_to known own)) ≡ true
  provider_found number own goal here names recorded =
      let there = recorded-held run history own orderly recorded in
      let other : Goal = there.0 in
      let at : goal_at known own ≡ Some other = there.2.stands in
      let standing = standing_of own other recorded at in
      let ids = provider-id run history own other standing.one standing.result orderly recorded
      (provide number own goal other here names at) at standing.decided standing.recording in
      let text = some_there (provider_id known own) ids.1 in
      let id : standing.row.id ≡ Some text.0 = standing.stands.id ∙ ids.0 ∙ text.1 in
      reference_met known own other text.0 entries at text.1
      (among_new (is_provider (record { urn = other.urn; id = text.0 })) own standing.row recorded standing.entry
      (is_named other.urn text.0 standing.row standing.stands.urn id))

  abbrev is_there : List ℕ → Bool
  is_there urn = list_any (has_urn urn) (new_entries (known_of run history) ++ old_entries (known_of run history))

  parent_found : (o : Option (List ℕ)) → none_or (is_recorded_urn known) o ≡ true → list_all (is_met entries) (optional_refs Parent o) ≡ true
  parent_found None h = refl
  parent_found (Some urn) h = ap (λ (b : Bool). b && true) (urn_found urn h)

  own_provider_found : (number : ℕ) (goal : Goal) → goal_at known number ≡ Some goal → none_or (is_recorded known) goal.provider ≡ true
      → list_all (is_met entries) (optional_refs Provider (option_and_then (reference_to known) goal.provider)) ≡ true
  own_provider_found number goal here h = by goal.provider refl h
    where
      by : (o : Option ℕ) → goal.provider ≡ o → none_or (is_recorded known) o ≡ true
          → list_all (is_met entries) (optional_refs Provider (option_and_then (reference_to known) o)) ≡ true
      by None is h = refl
      by (Some own) is h = provider_found number own goal here is h

  -- where the references of a goal are recorded, a row with these references finds them among the entries
  pub references-found : (number : ℕ) (goal : Goal) (row : Entry) → goal_at known number ≡ Some goal → references_recorded known goal ≡ true
      → row.parent ≡ goal.parent → row.provider ≡ option_and_then (reference_to known) goal.provider → further_of row ≡ further_urns goal
      → finds_references entries row ≡ true
  references-found number goal row here all parent provider further =
      let first = and_left _ (list_all (is_recorded_urn known) (further_urns goal)) all in
      found_by_met entries row (met_by_tests entries row (record {
        parent = ap (λ (o : Option (List ℕ)). list_all (is_met entries) (optional_refs Parent o)) parent
            ∙ parent_found goal.parent (and_left (none_or (is_recorded_urn known) goal.parent) (none_or (is_recorded known) goal.provider) first);
        provider = same_wants entries Provider row.provider (option_and_then (reference_to known) goal.provider) provider
            ∙ own_provider_found number goal here (and_right (none_or (is_recorded_urn known) goal.parent) (none_or (is_recorded known) goal.provider) first);
        further = ap (λ (urns : List (List ℕ)). list_all is_there urns) further
            ∙ all_weaker (is_recorded_urn known) is_there urn_found (further_urns goal) (and_right _ (list_all (is_recorded_urn known) (further_urns goal)) all);
      }))

-- ---- a list without one of its elements

each_without : {X : Type 0} (P : X → Type 0) (xs : List X) (y : X) (ys : List X) → Each P (xs ++ y ∷ ys) → Each P (xs ++ ys)
each_without P [] y ys h = h.1
each_without P (x ∷ xs) y ys h = (h.0, each_without P xs y ys h.1)

pairs_without : {X : Type 0} (R : X → X → Type 0) (xs : List X) (y : X) (ys : List X) → Pairwise R (xs ++ y ∷ ys) → Pairwise R (xs ++ ys)
pairs_without R [] y ys h = h.1
pairs_without R (x ∷ xs) y ys h = (each_without (R x) xs y ys h.0, pairs_without R xs y ys h.1)

-- a test that one number does not pass
abbrev but : (ℕ → Bool) → ℕ → ℕ → Bool
but test number place = test place && not (place == number)

-- the numbers of a list that pass a test, about one of them
record Split (test : ℕ → Bool) (number : ℕ) (numbers : List ℕ) : Type 0 where
  pub front : List ℕ
  pub behind : List ℕ
  pub whole : filter test numbers ≡ front ++ number ∷ behind
  pub rest : filter (but test number) numbers ≡ front ++ behind

-- no later number is that one
none_behind : (test : ℕ → Bool) (number a n : ℕ) → number < a → filter (but test number) (range_with_len a n) ≡ filter test (range_with_len a n)
none_behind test number a zero low = refl
none_behind test number a (suc n) low =
    by (test a) refl (none_behind test number (a + 1) n (omega arith))
  where
    other : (a == number) ≡ false
    other = grind (arith, nat_tests)

    by : (b : Bool) → test a ≡ b
        → filter (but test number) (range_with_len (a + 1) n) ≡ filter test (range_with_len (a + 1) n)
        → filter (but test number) (range_with_len a (suc n)) ≡ filter test (range_with_len a (suc n))
    by true is rest = rw is (rw other (ap (λ (places : List ℕ). a ∷ places) rest))
    by false is rest = rw is rest

split_at : (test : ℕ → Bool) (number a n : ℕ) → test number ≡ true → a ≤ number → number < a + n → Split test number (range_with_len a n)
split_at test number a zero passes low high = absurd (omega arith)
split_at test number a (suc n) passes low high =
    at (eq-or-lt_of_le low) (λ later. split_at test number (a + 1) n passes (omega arith) (omega arith))
  where
    here : a ≡ number → Split test number (range_with_len a (suc n))
    here same =
        let now : test a ≡ true = ap test same ∙ passes in
        let own : (a == number) ≡ true = ap (λ (k : ℕ). k == number) same ∙ same_number number in
        record {
          front = [];
          behind = filter test (range_with_len (a + 1) n);
          whole = rw now (ap (λ (k : ℕ). k ∷ filter test (range_with_len (a + 1) n)) same);
          rest = rw now (rw own (none_behind test number (a + 1) n (omega arith)));
        }

    by : (b : Bool) → test a ≡ b → a < number → Split test number (range_with_len (a + 1) n) → Split test number (range_with_len a (suc n))
    by true is later split =
        let other : (a == number) ≡ false = grind (arith, nat_tests) in
        record {
          front = a ∷ split.front;
          behind = split.behind;
          whole = rw is (ap (λ (places : List ℕ). a ∷ places) split.whole);
          rest = rw is (rw other (ap (λ (places : List ℕ). a ∷ places) split.rest));
        }
    by false is later split = record {
      front = split.front;
      behind = split.behind;
      whole = rw is split.whole;
      rest = rw is split.rest;
    }

    at : (a ≡ number) ⊎ (a < number) → (a < number → Split test number (range_with_len (a + 1) n)) → Split test number (range_with_len a (suc n))
    at (inl same) rest = here same
    at (inr later) rest = by (test a) refl later (rest later)

-- ---- the row that goes

module _ (run : Fixed) (history : List Event)
    (names : HasNames run) (real : is_preview run.mode ≡ false)
    (sound : IsSound (rows_of run)) (named : NameProviders (rows_of run)) (orderly : IsOrderly run history)
    (place : ℕ) (entry : Entry) (here : slice_get (rows_of run) place ≡ Some entry)
    (ready : is_delete_ready (known_of run history) place ≡ true) where
  abbrev now : Known
  now = known_of run history

  abbrev all_entries : List Entry
  all_entries = new_entries (known_of run history) ++ old_entries (known_of run history)

  -- the rows that are left but this one
  abbrev stays : ℕ → Bool
  stays = but (is_left (known_of run history)) place

  removable : is_removable now place ≡ true
  removable = and_left (is_removable now place) _ ready

  doomed : is_doomed now place ≡ true
  doomed = (removable-parts now place removable).doomed

  independent : has_dependents now place ≡ false
  independent = (removable-parts now place removable).free

  left : is_left now place ≡ true
  left = and_left (is_left now place) (not (is_refresh now.run.mode)) (and_left _ _ (and_left _ _ doomed))

  left_so : (other : ℕ) → stays other ≡ true → is_left now other ≡ true
  left_so other there = and_left (is_left now other) (not (other == place)) there

  -- no row that stays refers to this one
  closed : (later earlier : ℕ) → stays later ≡ true → refers_to (rows_of run) later earlier ≡ true → is_left now earlier ≡ true → stays earlier ≡ true
  closed later earlier there refers still = by (earlier == place) refl
    where
      by : (b : Bool) → (earlier == place) ≡ b → (is_left now earlier && not b) ≡ true
      by false is = rw still refl
      by true is =
          let to_it : refers_to (rows_of now.run) later place ≡ true =
          subst (λ (fixed : Fixed). refers_to (rows_of fixed) later place ≡ true) (sym (run_of run history))
          (subst (λ (k : ℕ). refers_to (rows_of run) later k ≡ true) (equal_numbers earlier place is) refers) in
          let some : has_dependents now place ≡ true =
          depended now later place to_it (left_so later there) in
          absurd (let e : true ≡ false = sym some ∙ independent in cc)

  -- the entries but that of this row, which stands between two parts of them
  abbrev others : List Entry
  others = new_entries (known_of run history) ++ filter_map (old_row (known_of run history)) (filter stays (row_numbers (known_of run history)))

  -- this row as it stands now
  pub row-found : old_row now place ≡ Some (row_now now place entry)
  row-found = old_is run history real sound named orderly stays left_so closed place entry here

  parts : Split (is_left now) place (row_numbers now)
  parts =
      subst (λ (fixed : Fixed). Split (is_left now) place (range_with_len 0 (length (rows_of fixed)))) (sym (run_of run history))
      (split_at (is_left now) place 0 (length (rows_of run)) left (omega arith)
      (let low = slice_get_within (rows_of run) place entry here in omega arith))

  abbrev row : Entry
  row = row_now (known_of run history) place entry

  front_entries : List Entry
  front_entries = new_entries now ++ filter_map (old_row now) parts.front

  behind_entries : List Entry
  behind_entries = filter_map (old_row now) parts.behind

  whole_is : all_entries ≡ front_entries ++ row ∷ behind_entries
  unfolding parts behind_entries front_entries
  whole_is =
      ap (λ (places : List ℕ). new_entries now ++ filter_map (old_row now) places) parts.whole
      ∙ ap (λ (rows : List Entry). new_entries now ++ rows) (filter_map-append (old_row now) parts.front (place ∷ parts.behind))
      ∙ ap (λ (o : Option Entry). new_entries now ++ (filter_map (old_row now) parts.front ++ cons_option o behind_entries)) row-found
      ∙ sym (append_assoc (new_entries now) (filter_map (old_row now) parts.front) (row ∷ behind_entries))

  rest_is : others ≡ front_entries ++ behind_entries
  unfolding behind_entries front_entries
  rest_is =
      ap (λ (places : List ℕ). new_entries now ++ filter_map (old_row now) places) parts.rest
      ∙ ap (λ (rows : List Entry). new_entries now ++ rows) (filter_map-append (old_row now) parts.front parts.behind)
      ∙ sym (append_assoc (new_entries now) (filter_map (old_row now) parts.front) behind_entries)

  without : IsWithout all_entries row others
  without = record { before = front_entries; after = behind_entries; whole = whole_is; rest = rest_is }

  others_apart : KeepsApart others
  others_apart =
      pairs-all AreApart others
      (subst (λ (rows : List Entry). Pairwise AreApart rows) (sym rest_is)
      (pairs_without AreApart front_entries row behind_entries
      (subst (λ (rows : List Entry). Pairwise AreApart rows) whole_is
      (merged_pairs run history names real (sound-apart (rows_of run) sound) orderly))))

  others_sound : IsSound others
  others_sound =
      sound-from others
      (all_back run history real sound named orderly stays left_so closed recorded-after-references
      (providers-provide run history names orderly))
      others_apart

  -- without a row whose deletion is due, the entries are sound
  pub deletion-found : (rest : List Entry) × IsWithout all_entries row rest × IsSound rest
  deletion-found = (others, without, others_sound)
