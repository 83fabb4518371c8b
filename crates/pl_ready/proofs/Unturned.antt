-- A row that is left and not flagged has the URN that it had at the start.
use Rattle.std.proofs.Common.{◌≡◌, ◌==◌, ℕ, Bool, true, false, not, ◌&&◌, ◌||◌, if◌then◌else◌, List, [], ◌∷◌, Option, Some, None, option_and_then, reverse, refl, sym, ap, ◌∙◌, bytes_eq}
use Rattle.std.proofs.Math.Bool.{or-true}
use Rattle.std.proofs.lemmas.Option.{same_Some}
use Rattle.std.specs.List.{cons_option, filter_map, fold, slice_get}
use Rattle.pl_lemmas.specs.Words.{has_number, only_if, some_passes}
use Rattle.pl_lemmas.proofs.Each.{Each, each_reverse, each_weaker}
use Rattle.pl_lemmas.proofs.Lists.{bytes_same, same_bytes}
use Rattle.pl_lemmas.proofs.Numbers.{same_number}
use Rattle.pl_lemmas.proofs.Options.{then_some}
use Rattle.pl_lemmas.proofs.Truth.{and_right, neither_left, neither_right}
use Rattle.pl_sound.specs.Sound.{IsSound}
use Rattle.pl_state.specs.References.{keeps_urn}
use Rattle.pl_state.specs.declared.entry.Entry.{Entry}
use Rattle.pl_state.specs.declared.goal.Goal.{Goal}
use Rattle.pl_model.specs.Entries.{Turning, turned, turned_entry, turning_of, turnings}
use Rattle.pl_model.specs.Known.{Known, claim_of, claim_row, goal_at, is_recorded}
use Rattle.pl_model.specs.Recording.{recorded_of}
use Rattle.pl_model.specs.Rows.{is_left, is_marked, is_replaced, is_taken_over, recorded_claimer, row_at, stands_beside}
use Rattle.pl_model.specs.Run.{rows_of}
use Rattle.pl_ready.specs.Keepers.{AreKeepers}
use Rattle.pl_ready.proofs.Keeping.{keeper_is}

-- ---- lists

-- what is found for each has a property that each gives it
each_given : {X Y : Type 0} (f : X → Option Y) (P : X → Type 0) (Q : Y → Type 0)
    → ((x : X) (y : Y) → P x → f x ≡ Some y → Q y) → (xs : List X) → Each P xs → Each Q (filter_map f xs)
each_given f P Q gives [] all = tt
each_given {Y = Y} f P Q gives (x ∷ xs) all = by (f x) refl (each_given f P Q gives xs all.1)
  where
    by : (o : Option Y) → f x ≡ o → Each Q (filter_map f xs) → Each Q (cons_option o (filter_map f xs))
    by None is rest = rest
    by (Some y) is rest = (gives x y all.0 is, rest)

-- each of some numbers is one of them
each_one : (numbers : List ℕ) → Each (λ n. has_number numbers n ≡ true) numbers
each_one [] = tt
each_one (first ∷ numbers) = (
  ap (λ (b : Bool). b || has_number numbers first) (same_number first),
  each_weaker (λ n. has_number numbers n ≡ true) (λ n. has_number (first ∷ numbers) n ≡ true)
      (λ n h. ap (λ (b : Bool). (first == n) || b) h ∙ or-true (first == n)) numbers (each_one numbers),
)

-- ---- turnings

-- turnings of other URNs leave that of an entry
unturned : (urn : List ℕ) (turns : List Turning) (entry : Entry) → Each (λ turning. bytes_eq urn turning.old ≡ false) turns
    → entry.urn ≡ urn → (fold turned_entry entry turns).urn ≡ urn
unturned urn [] entry others is = is
unturned urn (turning ∷ turns) entry others is =
    unturned urn turns (turned_entry entry turning) others.1
    (ap (λ (text : List ℕ). turned turning text) is ∙ ap (λ (b : Bool). if b then turning.new else urn) others.0)

-- a turning that there is has what it is made of
old_of : (b : Bool) (made turning : Turning) → (if b then None else Some made) ≡ Some turning → made.old ≡ turning.old
old_of true made turning is = absurd (let none : None ≡ Some turning = is in cc)
old_of false made turning is = ap (λ (it : Turning). it.old) (same_Some made turning is)

-- the row whose URN a goal turned: that of its claim
turned_row : (known : Known) (goal : ℕ) (turning : Turning) → turning_of known goal ≡ Some turning
    → (row : ℕ) × (entry : Entry) × (claim_of known goal ≡ Some row) × (row_at known row ≡ Some entry) × (entry.urn ≡ turning.old)
turned_row known goal turning is =
    let own = then_some (λ (it : Goal). option_and_then (λ (row : Entry).
    if bytes_eq row.urn it.urn then None else Some (record { old = row.urn; new = it.urn })) (claim_row known goal))
    (goal_at known goal) turning is in
    let claimed = then_some (λ (row : Entry).
    if bytes_eq row.urn own.0.urn then None else Some (record { old = row.urn; new = own.0.urn }))
    (claim_row known goal) turning own.2 in
    let place = then_some (λ (row : ℕ). slice_get (rows_of known.run) row) (claim_of known goal) claimed.0 claimed.1 in (
      place.0,
      claimed.0,
      place.1,
      place.2,
      old_of (bytes_eq claimed.0.urn own.0.urn) (record { old = claimed.0.urn; new = own.0.urn }) turning claimed.2,
    )

-- ---- a row that is left and not flagged

module _ (known : Known) (sound : IsSound (rows_of known.run)) (keepers : AreKeepers known) (row : ℕ) (entry : Entry)
    (at : row_at known row ≡ Some entry) (left : is_left known row ≡ true) (unmarked : is_marked known row ≡ false) where
  -- it was to stay
  pub stays : entry.doomed ≡ false
  stays =
      ap (λ (o : Option Entry). some_passes (λ (it : Entry). it.doomed) o) (sym at)
      ∙ neither_left (some_passes (λ (it : Entry). it.doomed) (row_at known row)) (is_replaced known row) unmarked

  -- a goal has its thing beside the row's or not, so it replaces the row or takes it over
  never_both : (b : Bool) → not (not b) ≡ true → b ≡ false → ⊥
  never_both true kept is = let e : true ≡ false = is in cc
  never_both false kept is = let e : false ≡ true = kept in cc

  -- no recorded goal claims it
  unclaimed : (goal : ℕ) → is_recorded known goal ≡ true → claim_of known goal ≡ Some row → ⊥
  unclaimed goal recorded claims =
      let claimer : recorded_claimer known row ≡ Some goal =
      ap (λ (o : Option ℕ). option_and_then (λ (n : ℕ). only_if (is_recorded known n) (Some n)) o) (keepers.own goal row recorded claims)
      ∙ ap (λ (b : Bool). only_if b (Some goal)) recorded in
      let kept : not (is_taken_over known row) ≡ true = and_right _ (not (is_taken_over known row)) left in
      let alone : is_replaced known row ≡ false =
      neither_right (some_passes (λ (it : Entry). it.doomed) (row_at known row)) (is_replaced known row) unmarked in
      never_both (stands_beside known goal)
      (ap (λ (o : Option ℕ). not (some_passes (λ (n : ℕ). not (stands_beside known n)) o)) (sym claimer) ∙ kept)
      (ap (λ (o : Option ℕ). some_passes (stands_beside known) o) (sym claimer) ∙ alone)

  keeps_own : keeps_urn entry.urn entry ≡ true
  keeps_own =
      ap (λ (b : Bool). not b && bytes_eq entry.urn entry.urn) stays ∙ bytes_same entry.urn

  -- a recorded goal turns another URN
  other_urn : (goal : ℕ) (turning : Turning) → is_recorded known goal ≡ true → turning_of known goal ≡ Some turning
      → bytes_eq entry.urn turning.old ≡ false
  other_urn goal turning recorded is = by (bytes_eq entry.urn turning.old) refl
    where
      by : (b : Bool) → bytes_eq entry.urn turning.old ≡ b → b ≡ false
      by false same = refl
      by true same =
          let its = turned_row known goal turning is in
          let urns : its.1.urn ≡ entry.urn = its.4 ∙ sym (same_bytes entry.urn turning.old same) in
          let kept : its.1.doomed ≡ false =
          ap (λ (o : Option Entry). some_passes (λ (it : Entry). it.doomed) o) (sym its.3) ∙ keepers.stays goal its.0 recorded its.2 in
          let keeps : keeps_urn entry.urn its.1 ≡ true =
          ap (λ (b : Bool). not b && bytes_eq its.1.urn entry.urn) kept
          ∙ ap (λ (urn : List ℕ). bytes_eq urn entry.urn) urns ∙ bytes_same entry.urn in
          let rows : Some its.0 ≡ Some row =
          sym (keeper_is (rows_of known.run) entry.urn its.0 its.1 sound its.3 keeps)
          ∙ keeper_is (rows_of known.run) entry.urn row entry sound at keeps_own in
          absurd (unclaimed goal recorded (its.2 ∙ rows))

  -- so its URN is that of the start
  pub urn_stays : (fold turned_entry entry (turnings known)).urn ≡ entry.urn
  urn_stays =
      unturned entry.urn (turnings known) entry
      (each_given (turning_of known) (λ goal. is_recorded known goal ≡ true) (λ turning. bytes_eq entry.urn turning.old ≡ false)
      (λ goal turning recorded is. other_urn goal turning recorded is) (reverse (recorded_of known.history))
      (each_reverse (λ goal. is_recorded known goal ≡ true) (recorded_of known.history) (each_one (recorded_of known.history))))
      refl
