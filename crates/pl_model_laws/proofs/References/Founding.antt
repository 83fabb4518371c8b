-- Each row of a state finds what it refers to among the rows before it.
use Rattle.std.proofs.Common.{◌≡◌, ℕ, zero, suc, ◌+◌, ◌<◌, ◌≤◌, Bool, true, false, ◌||◌, cond, IfSome, List, [], ◌∷◌, ◌++◌, filter, filter_map, get_or, length, nat_lt, option_map, reverse, slice_get, take, Option, Some, None, refl, sym, ◌∙◌, ap, subst, inl, inr, ◌⊎◌, arith, eq-or-lt_of_le}
use Rattle.std.proofs.lemmas.Bool.Decides.{nat_tests}
use Rattle.std.proofs.lemmas.List.{append-nil, reverse-append}
use Rattle.std.proofs.lemmas.List.Folds.{list_any-append}
use Rattle.std.proofs.lemmas.Option.{get_or_from_slice_get, slice_get-get_or, slice_get_within}
use Rattle.std.proofs.lemmas.Slice.Eq.{bytes_eq-Decides}
use Rattle.std.specs.List.{cons_option, list_any, range_with_len}
use Rattle.std.specs.Option.{option_or}
use Rattle.std.proofs.Math.Bool.{or-true}
use Rattle.pl_lemmas.proofs.Truth.{and_left, and_right}
use Rattle.pl_lemmas.proofs.Numbers.{range_more}
use Rattle.pl_lemmas.proofs.Each.{Each}
use Rattle.pl_reference.specs.declared.reference.ProviderRef.{ProviderRef}
use Rattle.pl_state.specs.Chain.{refers_to}
use Rattle.pl_state.specs.Kinds.{is_of_provider, is_provider_goal, is_provider_row}
use Rattle.pl_state.specs.References.{has_urn, is_id, is_provider, meets, names_row, refs}
use Rattle.pl_sound.specs.Sound.{IsSound, is_met}
use Rattle.pl_state.specs.declared.entry.Entry.{Entry}
use Rattle.pl_state.specs.declared.fault.Missing.{Missing}
use Rattle.pl_state.specs.declared.fault.Missing.TheVariants.{Twice, Parent, Provider, Dependency, DeletedWith}
use Rattle.pl_state.specs.declared.goal.Goal.{Goal}
use Rattle.pl_events.specs.declared.event.Event.{Event}
use Rattle.pl_options.specs.Names.{id_text}
use Rattle.pl_model.specs.declared.decided.Decided.{Decided}
use Rattle.pl_model.specs.declared.fixed.Fixed.{Fixed}
use Rattle.pl_model.specs.Run.{HasNames, is_preview, is_refresh, rows_of}
use Rattle.pl_lemmas.specs.Words.{has_number, is_row}
use Rattle.pl_lemmas.proofs.Options.{row_is}
use Rattle.pl_model.specs.Claims.{claimed_row, id_of_row, is_usable, usable_id}
use Rattle.pl_model.specs.Entries.{new_entries, old_entries, old_row, recorded_entry, row_now, turnings}
use Rattle.pl_model.specs.History.{known_of}
use Rattle.pl_model.specs.Known.{Known, claim_of, claim_row, decided_goal, goal_at, is_recorded, provider_id}
use Rattle.pl_model.specs.Legal.{IsOrderly}
use Rattle.pl_model.specs.Recording.{fresh_of, recorded_of, removed_of}
use Rattle.pl_model.specs.Rows.{is_left, is_taken_over, row_at, row_numbers}
use Rattle.pl_model.specs.State.{state_of}
use Rattle.pl_model.specs.RunData.{NameProviders, NamesProvider}
use Rattle.pl_model_stays.specs.Order.{RecordedAfterReferences}
use Rattle.pl_model_stays.proofs.Lists.Growing.{run_of}
use Rattle.pl_model_stays.proofs.Operations.Once.{history_of}
use Rattle.pl_model_stays.proofs.Lists.Pairs.{each_map}
use Rattle.pl_model_stays.proofs.Goals.Recorded.{recorded-held}
use Rattle.pl_model_stays.proofs.Goals.Standing.{claim-of-decided, entry-there, recording-there}
use Rattle.pl_model_laws.specs.Apart.{KeepsApart}
use Rattle.pl_model_laws.proofs.Rows.Dependents.{gone_last}
use Rattle.pl_model_laws.proofs.Urns.Keeping.{entries_merged, merged_apart}
use Rattle.pl_model_laws.proofs.Providing.Provided.{providers-provide}
use Rattle.pl_model_laws.proofs.Providing.Providers.{provider-id}
use Rattle.pl_model_laws.proofs.References.Referring.{Held, ProvidersProvide, entry_met, new-met}
use Rattle.pl_model_laws.proofs.References.Sounding.{AreMet, RefersBack, any_found, refers-more, refers-none, sound-apart, sound-back, sound-from}
use Rattle.pl_model_laws.proofs.Rows.TakenOver.{all-decided, taken-turned}
use Rattle.pl_model_laws.proofs.Rows.Turning.{IsTurned, row-turned, turned_by}
use Rattle.pl_model_laws.proofs.Providing.TurningProviders.{provider-turned}
use Rattle.pl_model_laws.proofs.References.Wants.{IsReference, changed_reference, each_provider, met_by_tests, refs_are, refs_name, refs_turned}

append_twice : {X : Type 0} (xs ys zs : List X) → (xs ++ ys) ++ zs ≡ xs ++ (ys ++ zs)
append_twice [] ys zs = refl
append_twice {X = X} (x ∷ xs) ys zs = ap (λ (rest : List X). x ∷ rest) (append_twice xs ys zs)

filter_map_append : {X Y : Type 0} (f : X → Option Y) (xs ys : List X) → filter_map f (xs ++ ys) ≡ filter_map f xs ++ filter_map f ys
filter_map_append f [] ys = refl
filter_map_append {X} {Y} f (x ∷ xs) ys = by (f x) (filter_map_append f xs ys)
  where
    by : (o : Option Y) → filter_map f (xs ++ ys) ≡ filter_map f xs ++ filter_map f ys
        → cons_option o (filter_map f (xs ++ ys)) ≡ cons_option o (filter_map f xs) ++ filter_map f ys
    by None rest = rest
    by (Some y) rest = ap (λ (zs : List Y). y ∷ zs) rest

filter_append : {X : Type 0} (p : X → Bool) (xs ys : List X) → filter p (xs ++ ys) ≡ filter p xs ++ filter p ys
filter_append p [] ys = refl
filter_append {X} p (x ∷ xs) ys = by (p x) refl (filter_append p xs ys)
  where
    by : (b : Bool) → p x ≡ b → filter p (xs ++ ys) ≡ filter p xs ++ filter p ys → filter p ((x ∷ xs) ++ ys) ≡ filter p (x ∷ xs) ++ filter p ys
    by true is rest = rw is (ap (λ (zs : List X). x ∷ zs) rest)
    by false is rest = rw is rest

range_first : (n : ℕ) → range_with_len 0 (suc n) ≡ range_with_len 0 n ++ n ∷ []
range_first n = range_more 0 n ∙ ap (λ (k : ℕ). range_with_len 0 n ++ k ∷ []) (let e : 0 + n ≡ n = omega arith in e)

-- what is found for a number of a range that passes is among what is found for all of them
range_has : {Y : Type 0} (test : Y → Bool) (f : ℕ → Option Y) (p : ℕ → Bool) (a n k : ℕ) (y : Y) → a ≤ k → k < a + n
    → p k ≡ true → f k ≡ Some y → test y ≡ true → list_any test (filter_map f (filter p (range_with_len a n))) ≡ true
range_has test f p a zero k y low high passes is holds = absurd (omega arith)
range_has {Y = Y} test f p a (suc n) k y low high passes is holds =
    at (eq-or-lt_of_le low) (λ later. range_has test f p (a + 1) n k y (omega arith) (omega arith) passes is holds)
  where
    more : (b : Bool) → p a ≡ b → list_any test (filter_map f (filter p (range_with_len (a + 1) n))) ≡ true
        → list_any test (filter_map f (filter p (range_with_len a (suc n)))) ≡ true
    more false out rest = rw out rest
    more true out rest = rw out (front (f a) refl)
      where
        front : (o : Option Y) → f a ≡ o → list_any test (cons_option o (filter_map f (filter p (range_with_len (a + 1) n)))) ≡ true
        front None found = rest
        front (Some z) found = rw rest (or-true (test z))

    at : (a ≡ k) ⊎ (a < k) → (a < k → list_any test (filter_map f (filter p (range_with_len (a + 1) n))) ≡ true)
        → list_any test (filter_map f (filter p (range_with_len a (suc n)))) ≡ true
    at (inl same) rest =
        subst (λ (j : ℕ). list_any test (filter_map f (filter p (range_with_len j (suc n)))) ≡ true) (sym same)
        (rw passes (rw is (rw holds refl)))
    at (inr later) rest = more (p a) refl (rest later)

pub some_at : {X : Type 0} (xs : List X) (i : ℕ) → i < length xs → (x : X) × (slice_get xs i ≡ Some x)
some_at [] i low = absurd (omega arith)
some_at (x ∷ xs) zero low = (x, refl)
some_at (x ∷ xs) (suc i) low = some_at xs i (omega arith)

usable_as : (id : List ℕ) → is_usable id ≡ true → usable_id (Some id) ≡ Some id
usable_as id h = rw h refl

is_id_same : (own : Option (List ℕ)) (id : List ℕ) → is_id own id ≡ true → own ≡ Some id
is_id_same None id h = absurd (let e : false ≡ true = h in cc)
is_id_same (Some text) id h = ap (λ (t : List ℕ). Some t) ((bytes_eq-Decides text id).0 h)

provider_parts : (reference : ProviderRef) (row : Entry) → is_provider reference row ≡ true → (row.urn ≡ reference.urn) × (row.id ≡ Some reference.id)
provider_parts reference row h = (
  (bytes_eq-Decides row.urn reference.urn).0 (and_left (has_urn reference.urn row) (is_id row.id reference.id) h),
  is_id_same row.id reference.id (and_right (has_urn reference.urn row) (is_id row.id reference.id) h),
)

-- ---- new entries

module _ (run : Fixed) (history : List Event) (orderly : IsOrderly run history)
    (provide : ProvidersProvide (known_of run history)) where
  abbrev known : Known
  known = known_of run history

  abbrev new_of : List ℕ → List Entry
  new_of older = filter_map (recorded_entry (known_of run history)) (reverse older)

  pub held : (past : List Event) (number : ℕ) → IsOrderly run past → is_recorded (known_of run past) number ≡ true → Held (known_of run past) number
  held past number lawful recorded =
      let there = recorded-held run past number lawful recorded in
      (there.0, there.1, there.2.stands, there.2.decided, there.2.references)

  new_more : (number : ℕ) (older : List ℕ) → new_of (number ∷ older) ≡ new_of older ++ filter_map (recorded_entry known) (number ∷ [])
  new_more number older =
      ap (λ (all : List ℕ). filter_map (recorded_entry known) all) (reverse-append (number ∷ []) older)
      ∙ filter_map_append (recorded_entry known) (reverse older) (number ∷ [])

  new_back : (after : RecordedAfterReferences) (newer older : List ℕ) → recorded_of history ≡ newer ++ older → RefersBack (new_of older)
  new_back after newer [] is = refers-none
  new_back after newer (number ∷ older) is =
      subst (λ (rows : List Entry). RefersBack rows) (sym (new_more number older))
      (by (recorded_entry known number) refl (new_back after (newer ++ number ∷ []) older (is ∙ sym (append_twice newer (number ∷ []) older))))
    where
      by : (o : Option Entry) → recorded_entry known number ≡ o → RefersBack (new_of older) → RefersBack (new_of older ++ cons_option o [])
      by None found rest = subst (λ (rows : List Entry). RefersBack rows) (sym (append-nil (new_of older))) rest
      by (Some row) found rest = refers-more (new_of older) row rest
          (met_by_tests (new_of older) row (new-met run history orderly held after provide newer number older is row found))

-- ---- old entries, or those of them that are to be looked at: with each row every one that it refers to

module _ (run : Fixed) (history : List Event) (real : is_preview run.mode ≡ false)
    (sound : IsSound (rows_of run)) (named : NameProviders (rows_of run)) (orderly : IsOrderly run history)
    (stays : ℕ → Bool) (left_so : (place : ℕ) → stays place ≡ true → is_left (known_of run history) place ≡ true)
    (closed : (later earlier : ℕ) → stays later ≡ true → refers_to (rows_of run) later earlier ≡ true
    → is_left (known_of run history) earlier ≡ true → stays earlier ≡ true) where
  abbrev now : Known
  now = known_of run history

  abbrev turn : List ℕ → List ℕ
  turn urn = turned_by (turnings (known_of run history)) urn

  abbrev old_of : ℕ → List Entry
  old_of count = filter_map (old_row (known_of run history)) (filter stays (range_with_len 0 count))

  -- all entries before the old row at a place
  abbrev before : ℕ → List Entry
  before count = new_entries (known_of run history) ++ old_of count

  apart : KeepsApart (rows_of run)
  apart = sound-apart (rows_of run) sound

  base_row : (place : ℕ) (row : Entry) → slice_get (rows_of run) place ≡ Some row → row_at now place ≡ Some row
  base_row place row is = ap (λ (fixed : Fixed). slice_get (rows_of fixed) place) (run_of run history) ∙ is

  in_new : (test : Entry → Bool) (count number : ℕ) (row : Entry) → is_recorded now number ≡ true → recorded_entry now number ≡ Some row → test row ≡ true
      → list_any test (before count) ≡ true
  in_new test count number row recorded is passes =
      list_any-append test (new_entries now) (old_of count)
      ∙ ap (λ (b : Bool). b || list_any test (old_of count)) (entry_met test (recorded_entry now) (recorded_of now.history) number row recorded is passes)

  in_old : (test : Entry → Bool) (count place : ℕ) (row : Entry) → place < count → stays place ≡ true → old_row now place ≡ Some row → test row ≡ true
      → list_any test (before count) ≡ true
  in_old test count place row low left is passes =
      list_any-append test (new_entries now) (old_of count)
      ∙ ap (λ (b : Bool). list_any test (new_entries now) || b) (range_has test (old_row now) stays 0 count place row (omega arith) (omega arith) left is passes)
      ∙ or-true (list_any test (new_entries now))

  -- a recorded goal's entry
  record HasEntry (number : ℕ) (goal : Goal) : Type 0 where
    pub one : Decided
    pub row : Entry
    pub decided : decided_goal now number ≡ Some one
    pub entry : recorded_entry now number ≡ Some row
    pub urn : row.urn ≡ goal.urn
    pub id : is_provider_goal goal ≡ true → row.id ≡ provider_id now number

  has_entry : (number : ℕ) (goal : Goal) → is_recorded now number ≡ true → goal_at now number ≡ Some goal → HasEntry number goal
  has_entry number goal recorded stands =
      let there = recorded-held run history number orderly recorded in
      let found = recording-there run history number goal there.1 recorded in
      let whole = entry-there now number goal there.1 found.0 stands there.2.decided found.1 in
      record {
        one = there.1;
        row = whole.0;
        decided = there.2.decided;
        entry = whole.1;
        urn = whole.2.urn;
        id = λ provider. whole.2.id ∙ (provider-id run history number goal there.1 found.0 orderly recorded provider stands there.2.decided found.1).0;
      }

  abbrev turned_to : ProviderRef → ProviderRef
  turned_to reference = record reference { urn = turn reference.urn }

  -- a row of the start as it stands now
  pub old_is : (place : ℕ) (row : Entry) → slice_get (rows_of run) place ≡ Some row → old_row now place ≡ Some (row_now now place row)
  old_is place row is = ap (λ (o : Option Entry). option_map (row_now now place) o) (base_row place row is)

  old_urn : (place : ℕ) (row : Entry) (urn : List ℕ) → row.urn ≡ urn → has_urn (turn urn) (row_now now place row) ≡ true
  old_urn place row urn same =
      (bytes_eq-Decides (row_now now place row).urn (turn urn)).1 ((row-turned (turnings now) row).urn ∙ ap (λ (text : List ℕ). turn text) same)

  old_provider : (reference : ProviderRef) (place : ℕ) (row : Entry) → row.urn ≡ reference.urn → row.id ≡ Some reference.id
      → is_provider (turned_to reference) (row_now now place row) ≡ true
  old_provider reference place row same id =
      rw (old_urn place row reference.urn same) (ap (λ (own : Option (List ℕ)). is_id own reference.id) ((row-turned (turnings now) row).id ∙ id)
      ∙ (bytes_eq-Decides reference.id reference.id).1 refl)

  -- the id of a provider that took over a row with an id which a reference can name
  claimed_id : (number : ℕ) (one : Decided) (place : ℕ) (row : Entry) (id : List ℕ) → slice_get (rows_of run) place ≡ Some row
      → decided_goal now number ≡ Some one → is_row one.claim place ≡ true → row.id ≡ Some id → is_usable id ≡ true
      → provider_id now number ≡ Some id
  claimed_id number one place row id is decided claims own usable =
      let claim : claim_of now number ≡ Some place = claim-of-decided now number one decided ∙ row_is one.claim place claims in
      let found : claim_row now number ≡ Some row =
      ap (λ (o : Option ℕ). claimed_row now.run o) claim ∙ base_row place row is in
      let usual : usable_id (id_of_row (claim_row now number)) ≡ Some id =
      ap (λ (o : Option Entry). usable_id (id_of_row o)) found ∙ ap (λ (o : Option (List ℕ)). usable_id o) own ∙ usable_as id usable in
      ap (λ (o : Option (List ℕ)). option_or o (option_map id_text (fresh_of now.history number))) usual

  module _ (place : ℕ) (row : Entry) (here : slice_get (rows_of run) place ≡ Some row) (left : stays place ≡ true) where
    -- a row that this one refers to is there, or it was taken over
    left_or_taken : (earlier : ℕ) (other : Entry) → earlier < place → slice_get (rows_of run) earlier ≡ Some other → names_row row other ≡ true
        → (stays earlier ≡ true) ⊎ (is_taken_over now earlier ≡ true)
    left_or_taken earlier other low is names =
        let refers : refers_to (rows_of run) place earlier ≡ true = by_places in
        by refers (gone_last run place earlier refers history orderly (left_so place left)) (is_taken_over now earlier) refl
      where
        by_places : refers_to (rows_of run) place earlier ≡ true
        by_places = let below : nat_lt earlier place ≡ true = grind (arith, nat_tests) in rw below (rw here (rw is names))

        by : refers_to (rows_of run) place earlier ≡ true → has_number (removed_of history) earlier ≡ false
            → (b : Bool) → is_taken_over now earlier ≡ b → (stays earlier ≡ true) ⊎ (is_taken_over now earlier ≡ true)
        by refers kept true taken = inr taken
        by refers kept false taken =
            let within : nat_lt earlier (length (rows_of now.run)) ≡ true =
            ap (λ (fixed : Fixed). nat_lt earlier (length (rows_of fixed))) (run_of run history)
            ∙ (let low = slice_get_within (rows_of run) earlier other is in grind (arith, nat_tests)) in
            let there : has_number (removed_of now.history) earlier ≡ false =
            subst (λ (events : List Event). has_number (removed_of events) earlier ≡ false) (sym (history_of run history)) kept in
            inl (closed place earlier left refers (rw within (rw there (rw taken refl))))

    -- a URN that a row before had is, turned, that of an entry before
    urn_again : (urn : List ℕ) → list_any (has_urn urn) (take place (rows_of run)) ≡ true
        → ((other : Entry) → has_urn urn other ≡ true → names_row row other ≡ true) → list_any (has_urn (turn urn)) (before place) ≡ true
    urn_again urn met names =
        let found = any_found (has_urn urn) (rows_of run) place row met in
        let other = get_or (rows_of run) found.0 row in
        let is : slice_get (rows_of run) found.0 ≡ Some other =
        slice_get-get_or (rows_of run) found.0 row (let low = slice_get_within (rows_of run) place row here in let e = found.1 in omega arith) in
        let same : other.urn ≡ urn = (bytes_eq-Decides other.urn urn).0 found.2 in
        by found.0 other found.1 is same (left_or_taken found.0 other found.1 is (names other found.2))
      where
        by : (earlier : ℕ) (other : Entry) → earlier < place → slice_get (rows_of run) earlier ≡ Some other → other.urn ≡ urn
            → (stays earlier ≡ true) ⊎ (is_taken_over now earlier ≡ true) → list_any (has_urn (turn urn)) (before place) ≡ true
        by earlier other low is same (inl there) =
            in_old (has_urn (turn urn)) place earlier (row_now now earlier other) low there (old_is earlier other is) (old_urn earlier other urn same)
        by earlier other low is same (inr taken) =
            let goal = taken-turned run history (all-decided run history orderly) earlier other apart is taken in
            let entry = has_entry goal.0 goal.1 goal.2 goal.3 in
            in_new (has_urn (turn urn)) place goal.0 entry.row goal.2 entry.entry
            ((bytes_eq-Decides entry.row.urn (turn urn)).1
            (entry.urn ∙ sym goal.4 ∙ ap (λ (text : List ℕ). turn text) same))

    -- a provider that a row before was is, turned, an entry before
    provider_again : (reference : ProviderRef) → NamesProvider reference → list_any (is_provider reference) (take place (rows_of run)) ≡ true
        → ((other : Entry) → is_provider reference other ≡ true → names_row row other ≡ true)
        → list_any (is_provider (turned_to reference)) (before place) ≡ true
    provider_again reference proper met names =
        let found = any_found (is_provider reference) (rows_of run) place row met in
        let other = get_or (rows_of run) found.0 row in
        let is : slice_get (rows_of run) found.0 ≡ Some other =
        slice_get-get_or (rows_of run) found.0 row (let low = slice_get_within (rows_of run) place row here in let e = found.1 in omega arith) in
        let parts = provider_parts reference other found.2 in
        by found.0 other found.1 is parts.0 parts.1 (left_or_taken found.0 other found.1 is (names other found.2))
      where
        by : (earlier : ℕ) (other : Entry) → earlier < place → slice_get (rows_of run) earlier ≡ Some other → other.urn ≡ reference.urn → other.id ≡ Some reference.id
            → (stays earlier ≡ true) ⊎ (is_taken_over now earlier ≡ true) → list_any (is_provider (turned_to reference)) (before place) ≡ true
        by earlier other low is same id (inl there) =
            in_old (is_provider (turned_to reference)) place earlier (row_now now earlier other) low there (old_is earlier other is)
            (old_provider reference earlier other same id)
        by earlier other low is same id (inr taken) =
            let provides : is_provider_row other ≡ true = ap (λ (text : List ℕ). is_of_provider text) same ∙ proper.of_provider in
            let (number, goal, one, recorded, stands, decided, claims, of_provider, turns) =
            provider-turned run history real apart orderly earlier other is taken provides in
            let entry = has_entry number goal recorded stands in
            let urn_has : has_urn (turn reference.urn) entry.row ≡ true =
            (bytes_eq-Decides entry.row.urn (turn reference.urn)).1 (entry.urn ∙ sym turns ∙ ap (λ (text : List ℕ). turn text) same) in
            let own : entry.row.id ≡ Some reference.id =
            entry.id of_provider ∙ claimed_id number one earlier other reference.id is decided claims id proper.usable in
            in_new (is_provider (turned_to reference)) place number entry.row recorded entry.entry
            (rw urn_has (ap (λ (o : Option (List ℕ)). is_id o reference.id) own ∙ (bytes_eq-Decides reference.id reference.id).1 refl))

    -- the provider reference of the row is a proper one
    proper_reference : (reference : ProviderRef) → row.provider ≡ Some reference → NamesProvider reference
    proper_reference reference is =
        subst (λ (o : Option ProviderRef). IfSome o NamesProvider) is
        (subst (λ (one : Entry). IfSome one.provider NamesProvider) (get_or_from_slice_get (rows_of run) place row row here)
        (named place row (slice_get_within (rows_of run) place row here)))

    both_each : {X : Type 0} (P Q R : X → Type 0) → ((x : X) → P x → Q x → R x) → (xs : List X) → Each P xs → Each Q xs → Each R xs
    both_each P Q R f [] h k = tt
    both_each P Q R f (x ∷ xs) h k = (f x h.0 k.0, both_each P Q R f xs h.1 k.1)

    -- a provider reference among those of a row is a proper one
    abbrev Proper : Missing → Type 0
    Proper (Provider reference) = NamesProvider reference
    Proper _ = Unit

    proper_refs : Each Proper (refs row)
    proper_refs = each_provider Proper row (λ urn. tt) (λ urn. tt) (λ urn. tt) proper_reference

    -- a reference that a row before met is, turned, met by an entry before
    met_again : (want : Missing) → IsReference want → is_met (take place (rows_of run)) want ≡ true
        → ((other : Entry) → meets want other ≡ true → names_row row other ≡ true) → Proper want
        → is_met (before place) (changed_reference turn want) ≡ true
    met_again (Twice urn) is met names proper = absurd is
    met_again (Parent urn) is met names proper = urn_again urn met names
    met_again (Provider reference) is met names proper = provider_again reference proper met names
    met_again (Dependency urn) is met names proper = urn_again urn met names
    met_again (DeletedWith urn) is met names proper = urn_again urn met names

    -- what is needed of a reference to meet it again
    abbrev Ready : Missing → Type 0
    Ready want = IsReference want × ((other : Entry) → meets want other ≡ true → names_row row other ≡ true) × Proper want

    ready_refs : Each Ready (refs row)
    ready_refs =
        both_each IsReference (λ (want : Missing). ((other : Entry) → meets want other ≡ true → names_row row other ≡ true) × Proper want) Ready
        (λ want is more. (is, more.0, more.1)) (refs row) (refs_are row)
        (both_each (λ (want : Missing). (other : Entry) → meets want other ≡ true → names_row row other ≡ true) Proper
        (λ (want : Missing). ((other : Entry) → meets want other ≡ true → names_row row other ≡ true) × Proper want)
        (λ want names proper. (names, proper)) (refs row) (refs_name row) proper_refs)

    -- the row as it stands now is turned
    turned_now : IsTurned (turnings now) row (row_now now place row)
    turned_now =
        let turns = row-turned (turnings now) row in
        record {
          urn = turns.urn;
          id = turns.id;
          parent = turns.parent;
          provider = turns.provider;
          dependencies = turns.dependencies;
          property_dependencies = turns.property_dependencies;
          deleted_with = turns.deleted_with;
        }

    -- the row as it stands now finds what it refers to
    old_met : AreMet (before place) (refs (row_now now place row))
    old_met =
        subst (λ (wants : List Missing). AreMet (before place) wants)
        (sym (refs_turned (turnings now) row (row_now now place row) turned_now))
        (each_map (changed_reference turn) (λ (want : Missing). is_met (before place) want ≡ true) (refs row)
        (both_each (λ (want : Missing). is_met (take place (rows_of run)) want ≡ true) Ready
        (λ (want : Missing). is_met (before place) (changed_reference turn want) ≡ true)
        (λ want met ready. met_again want ready.0 met ready.1 ready.2) (refs row) (sound-back (rows_of run) sound place row here) ready_refs))

  -- ---- all of them

  old_more : (count : ℕ) → old_of (suc count) ≡ old_of count ++ filter_map (old_row now) (filter stays (count ∷ []))
  old_more count =
      ap (λ (places : List ℕ). filter_map (old_row now) (filter stays places)) (range_first count)
      ∙ ap (λ (places : List ℕ). filter_map (old_row now) places) (filter_append stays (range_with_len 0 count) (count ∷ []))
      ∙ filter_map_append (old_row now) (filter stays (range_with_len 0 count)) (filter stays (count ∷ []))

  old_back : RefersBack (new_entries now) → (count : ℕ) → count ≤ length (rows_of run) → RefersBack (before count)
  old_back new_sound zero low = subst (λ (rows : List Entry). RefersBack rows) (sym (append-nil (new_entries now))) new_sound
  old_back new_sound (suc count) low =
      subst (λ (rows : List Entry). RefersBack rows) (sym (ap (λ (rows : List Entry). new_entries now ++ rows) (old_more count)))
      (subst (λ (rows : List Entry). RefersBack rows) (append_twice (new_entries now) (old_of count) (filter_map (old_row now) (filter stays (count ∷ []))))
      (by (stays count) refl (old_back new_sound count (omega arith))))
    where
      by : (b : Bool) → stays count ≡ b → RefersBack (before count)
          → RefersBack (before count ++ filter_map (old_row now) (filter stays (count ∷ [])))
      by false gone rest = subst (λ (b : Bool). RefersBack (before count ++ filter_map (old_row now) (cond b (count ∷ []) []))) (sym gone)
          (subst (λ (rows : List Entry). RefersBack rows) (sym (append-nil (before count))) rest)
      by true left rest =
          let at = some_at (rows_of run) count (omega arith) in
          subst (λ (b : Bool). RefersBack (before count ++ filter_map (old_row now) (cond b (count ∷ []) []))) (sym left)
          (subst (λ (o : Option Entry). RefersBack (before count ++ cons_option o [])) (sym (old_is count at.0 at.1))
          (refers-more (before count) (row_now now count at.0) rest (old_met count at.0 at.1 left)))

  pub all_back : RecordedAfterReferences → ProvidersProvide now
      → RefersBack (new_entries now ++ filter_map (old_row now) (filter stays (row_numbers now)))
  all_back after provide =
      let new_sound : RefersBack (new_entries now) =
      new_back run history orderly provide after [] (recorded_of now.history)
      (ap (λ (events : List Event). recorded_of events) (sym (history_of run history))) in
      subst (λ (fixed : Fixed). RefersBack (new_entries now ++ filter_map (old_row now) (filter stays (range_with_len 0 (length (rows_of fixed))))))
      (sym (run_of run history)) (old_back new_sound (length (rows_of run)) (omega arith))

-- ---- states

module _ (run : Fixed) (history : List Event)
    (names : HasNames run) (real : is_preview run.mode ≡ false)
    (sound : IsSound (rows_of run)) (named : NameProviders (rows_of run)) (orderly : IsOrderly run history) where
  pub states-sound : RecordedAfterReferences → is_refresh run.mode ≡ false → IsSound (state_of run history).entries
  states-sound after other =
      let apart : KeepsApart (rows_of run) = sound-apart (rows_of run) sound in
      subst (λ (rows : List Entry). IsSound rows) (sym (entries_merged run history names real apart orderly other))
      (sound-from (new_entries (known_of run history) ++ old_entries (known_of run history))
      (all_back run history real sound named orderly (is_left (known_of run history)) (λ place left. left)
      (λ later earlier there refers left. left) after (providers-provide run history names orderly))
      (merged_apart run history names real apart orderly))
