-- Two entries of a state that are to stay have URNs of their own.
use Rattle.std.proofs.Common.{◌≡◌, ◌≢◌, ℕ, ◌<◌, ◌≤◌, ◌==◌, Bool, true, false, List, [], ◌∷◌, ◌++◌, filter, get_or, if◌then◌else◌, length, reverse, slice_get, Option, Some, is_some, refl, sym, ◌∙◌, ap, subst}
use Rattle.std.proofs.lemmas.Option.{get_or_from_slice_get, slice_get_within, same_Some}
use Rattle.std.proofs.Math.Bool.{or-true}
use Rattle.pl_lemmas.proofs.Options.{mapped_some}
use Rattle.pl_lemmas.proofs.Numbers.{same_number}
use Rattle.pl_lemmas.proofs.Each.{Each, Pairwise, each_weaker, each_reverse}
use Rattle.pl_state.specs.declared.entry.Entry.{Entry}
use Rattle.pl_state.specs.declared.goal.Goal.{Goal}
use Rattle.pl_events.specs.declared.event.Event.{Event}
use Rattle.pl_model.specs.declared.decided.Decided.{Decided}
use Rattle.pl_model.specs.declared.fixed.Fixed.{Fixed}
use Rattle.pl_model.specs.Run.{HasNames, is_preview, is_refresh, rows_of}
use Rattle.pl_lemmas.specs.Words.{has_number, is_row}
use Rattle.pl_model.specs.Entries.{new_entries, old_entries, old_row, recorded_entry, row_now}
use Rattle.pl_model.specs.History.{known_of}
use Rattle.pl_model.specs.Known.{Known, decided_goal, goal_at, is_recorded}
use Rattle.pl_model.specs.Legal.{IsOrderly}
use Rattle.pl_model.specs.Recording.{recorded_of}
use Rattle.pl_model.specs.Rows.{is_left, is_marked, left_rows, row_at, row_numbers}
use Rattle.pl_model.specs.State.{refreshed_entries, state_of}
use Rattle.pl_model_stays.proofs.Lists.Growing.{run_of}
use Rattle.pl_model_stays.proofs.Operations.Once.{history_of}
use Rattle.pl_model_stays.proofs.Lists.Pairs.{each-mapped, each-passes, once_apart, pairs-all, pairs-append, pairs-filter, pairs-mapped, pairs-reverse, pairs-with, range_rises}
use Rattle.pl_model_stays.proofs.Goals.Recorded.{recorded-held, recorded_at_most_once}
use Rattle.pl_model_stays.proofs.Goals.Standing.{entry-there, recording-there}
use Rattle.pl_model_laws.specs.Apart.{AreApart, KeepsApart}
use Rattle.pl_model_laws.proofs.Urns.Distinct.{goals-apart}
use Rattle.pl_model_laws.proofs.Urns.Freed.{free-recorded}
use Rattle.pl_model_laws.proofs.Rows.Leaving.{claim-gone, unmarked-urn}

-- each number of a list stands in it
each_there : (all numbers : List ℕ) → ((n : ℕ) → has_number numbers n ≡ true → has_number all n ≡ true) → Each (λ n. has_number all n ≡ true) numbers
each_there all [] within = tt
each_there all (n ∷ numbers) within =
    (within n (rw (same_number n) refl), each_there all numbers (λ m there. within m (rw there (or-true (n == m)))))

module _ (run : Fixed) (history : List Event)
    (names : HasNames run) (real : is_preview run.mode ≡ false)
    (apart : KeepsApart (rows_of run)) (orderly : IsOrderly run history) where
  abbrev known : Known
  known = known_of run history

  all_decided : (m : ℕ) → is_recorded known m ≡ true → is_some (decided_goal known m) ≡ true
  all_decided m h = let there = recorded-held run history m orderly h in ap (λ (o : Option Decided). is_some o) there.2.decided

  -- ---- recorded entries

  -- the entry of a recorded goal has the goal's URN
  record HasGoal (number : ℕ) (row : Entry) : Type 0 where
    pub goal : Goal
    pub stands : goal_at known number ≡ Some goal
    pub urn : row.urn ≡ goal.urn

  has_goal : (number : ℕ) (row : Entry) → is_recorded known number ≡ true → recorded_entry known number ≡ Some row → HasGoal number row
  has_goal number row recorded is =
      let there = recorded-held run history number orderly recorded in
      let found = recording-there run history number there.0 there.1 recorded in
      let whole = entry-there known number there.0 there.1 found.0 there.2.stands there.2.decided found.1 in
      let same : whole.0 ≡ row = same_Some whole.0 row (sym whole.1 ∙ is) in
      record { goal = there.0; stands = there.2.stands; urn = sym (ap (λ (one : Entry). one.urn) same) ∙ whole.2.urn }

  abbrev numbers : List ℕ
  numbers = reverse (recorded_of known.history)

  recorded_each : Each (λ n. is_recorded known n ≡ true) numbers
  recorded_each = each_reverse (λ n. is_recorded known n ≡ true) (recorded_of known.history)
      (each_there (recorded_of known.history) (recorded_of known.history) (λ n there. there))

  numbers_apart : Pairwise (λ m n. m ≢ n) numbers
  numbers_apart = pairs-reverse (λ (m n : ℕ). m ≢ n) (λ m n other same. other (sym same)) (recorded_of known.history)
      (once_apart (recorded_of known.history) (λ n.
      subst (λ (events : List Event). length (filter (λ other. other == n) (recorded_of events)) ≤ 1) (sym (history_of run history))
      (recorded_at_most_once run history n orderly)))

  new_apart : Pairwise AreApart (new_entries known)
  new_apart = pairs-mapped (recorded_entry known) AreApart numbers
      (pairs-with (λ (m n : ℕ). m ≢ n) (λ m n. (y z : Entry) → recorded_entry known m ≡ Some y → recorded_entry known n ≡ Some z → AreApart y z)
      (λ n. is_recorded known n ≡ true)
      (λ m n first second other y z is too. λ stays also same.
      let a = has_goal m y first is in
      let b = has_goal n z second too in
      other (goals-apart run history m n a.goal b.goal names orderly a.stands b.stands (sym a.urn ∙ same ∙ b.urn)))
      numbers recorded_each numbers_apart)

  -- ---- old entries

  -- an old entry that is to stay has the URN that it had at the start
  record StoodSo (number : ℕ) (row : Entry) : Type 0 where
    pub entry : Entry
    pub stands : slice_get (rows_of run) number ≡ Some entry
    pub was : entry.doomed ≡ false
    pub unmarked : is_marked known number ≡ false
    pub urn : row.urn ≡ entry.urn

  base_unmarked : (number : ℕ) (entry : Entry) → row_at known number ≡ Some entry → is_marked known number ≡ false → entry.doomed ≡ false
  base_unmarked number entry at unmarked = by entry.doomed refl
    where
      by : (b : Bool) → entry.doomed ≡ b → entry.doomed ≡ false
      by false is = is
      by true is = absurd (let marked : is_marked known number ≡ true = rw at (rw is refl) in let e : true ≡ false = sym marked ∙ unmarked in cc)

  stood : (number : ℕ) (row : Entry) → is_left known number ≡ true → old_row known number ≡ Some row → row.doomed ≡ false → StoodSo number row
  stood number row left is stays =
      let was = mapped_some (row_now known number) (row_at known number) row is in
      let unmarked : is_marked known number ≡ false = ap (λ (one : Entry). one.doomed) was.2 ∙ stays in
      let now = unmarked-urn run history number was.0 apart all_decided was.1 left unmarked in
      let same : now.0 ≡ row = same_Some now.0 row (sym now.1 ∙ is) in
      record {
        entry = was.0;
        stands = sym (ap (λ (fixed : Fixed). slice_get (rows_of fixed) number) (run_of run history)) ∙ was.1;
        was = base_unmarked number was.0 was.1 unmarked;
        unmarked = unmarked;
        urn = sym (ap (λ (one : Entry). one.urn) same) ∙ now.2;
      }

  -- two rows of the start that are to stay
  base_apart : (m n : ℕ) (first second : Entry) → m < n → slice_get (rows_of run) m ≡ Some first → slice_get (rows_of run) n ≡ Some second
      → AreApart first second
  base_apart m n first second before is too =
      subst (λ (one : Entry). AreApart one second) (get_or_from_slice_get (rows_of run) m first second is)
      (subst (λ (one : Entry). AreApart (get_or (rows_of run) m second) one) (get_or_from_slice_get (rows_of run) n second second too)
      (apart m n second before (slice_get_within (rows_of run) n second too)))

  left_each : Each (λ n. is_left known n ≡ true) (left_rows known)
  left_each = each-passes (is_left known) (row_numbers known)

  old_apart : Pairwise AreApart (old_entries known)
  old_apart = pairs-mapped (old_row known) AreApart (left_rows known)
      (pairs-with (λ (m n : ℕ). m < n) (λ m n. (y z : Entry) → old_row known m ≡ Some y → old_row known n ≡ Some z → AreApart y z)
      (λ n. is_left known n ≡ true)
      (λ m n first second before y z is too. λ stays also same.
      let a = stood m y first is stays in
      let b = stood n z second too also in
      base_apart m n a.entry b.entry before a.stands b.stands a.was b.was (sym a.urn ∙ same ∙ b.urn))
      (left_rows known) left_each
      (pairs-filter (λ (m n : ℕ). m < n) (is_left known) (row_numbers known) (range_rises 0 (length (rows_of known.run)))))

  -- ---- both

  -- a row that is left and is to stay is no recorded goal's claim
  unclaimed : (number row : ℕ) (one : Decided) → is_recorded known number ≡ true → decided_goal known number ≡ Some one
      → is_left known row ≡ true → is_marked known row ≡ false → is_row one.claim row ≡ false
  unclaimed number row one recorded decided left unmarked = by (is_row one.claim row) refl
    where
      by : (b : Bool) → is_row one.claim row ≡ b → is_row one.claim row ≡ false
      by false is = is
      by true is = absurd (let marked = claim-gone run history number one row decided is recorded left in let e : true ≡ false = sym marked ∙ unmarked in cc)

  apart_from_old : (number : ℕ) (y : Entry) (row : ℕ) (z : Entry) → is_recorded known number ≡ true → recorded_entry known number ≡ Some y
      → is_left known row ≡ true → old_row known row ≡ Some z → AreApart y z
  apart_from_old number y row z recorded is left too = λ stays also same.
      let a = has_goal number y recorded is in
      let b = stood row z left too also in
      let listed : has_number (recorded_of history) number ≡ true =
      subst (λ (events : List Event). has_number (recorded_of events) number ≡ true) (history_of run history) recorded in
      let free = free-recorded run real apart history number orderly listed in
      let goal_same : free.goal ≡ a.goal = same_Some free.goal a.goal (sym free.stands ∙ a.stands) in
      free.none row b.entry b.stands left b.unmarked (unclaimed number row free.one recorded free.decided left b.unmarked)
      (sym b.urn ∙ sym same ∙ a.urn ∙ sym (ap (λ (goal : Goal). goal.urn) goal_same))

  cross : Each (λ x. Each (AreApart x) (old_entries known)) (new_entries known)
  cross = each-mapped (recorded_entry known) (λ x. Each (AreApart x) (old_entries known)) numbers
      (each_weaker (λ n. is_recorded known n ≡ true) (λ n. (y : Entry) → recorded_entry known n ≡ Some y → Each (AreApart y) (old_entries known))
      (λ n recorded y is. each-mapped (old_row known) (AreApart y) (left_rows known)
      (each_weaker (λ r. is_left known r ≡ true) (λ r. (z : Entry) → old_row known r ≡ Some z → AreApart y z)
      (λ r left z too. apart_from_old n y r z recorded is left too) (left_rows known) left_each))
      numbers recorded_each)

  pub merged_pairs : Pairwise AreApart (new_entries known ++ old_entries known)
  merged_pairs = pairs-append AreApart (new_entries known) (old_entries known) new_apart old_apart cross

  pub merged_apart : KeepsApart (new_entries known ++ old_entries known)
  merged_apart = pairs-all AreApart (new_entries known ++ old_entries known) merged_pairs

  pub entries_merged : is_refresh run.mode ≡ false → (state_of run history).entries ≡ new_entries known ++ old_entries known
  entries_merged other =
      let live : is_refresh known.run.mode ≡ false = ap (λ (fixed : Fixed). is_refresh fixed.mode) (run_of run history) ∙ other in
      subst (λ (b : Bool). (if b then refreshed_entries known else new_entries known ++ old_entries known) ≡ new_entries known ++ old_entries known)
      (sym live) refl

  pub states-apart : is_refresh run.mode ≡ false → KeepsApart (state_of run history).entries
  states-apart other = subst (λ (rows : List Entry). KeepsApart rows) (sym (entries_merged other)) merged_apart
