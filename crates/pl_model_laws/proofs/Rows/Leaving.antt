-- Which rows are claimed, and which are left.
use Rattle.std.proofs.Common.{◌≡◌, ℕ, ◌+◌, suc, ◌==◌, ◌<◌, ◌≤◌, Bool, true, false, not, ◌&&◌, ◌||◌, if◌then◌else◌, cond, List, ◌∷◌, ◌++◌, length, get_or, reverse, Option, Some, None, is_some, refl, sym, ◌∙◌, ap, subst, inl, inr, ◌⊎◌, arith, bytes_eq, filter_map, find, fold, nat_lt, slice_get, option_map, option_and_then, []}
use Rattle.std.proofs.lemmas.Bool.{cases_lt}
use Rattle.std.proofs.lemmas.List.{reverse-append}
use Rattle.std.proofs.lemmas.Option.{get_or_from_slice_get, slice_get_within}
use Rattle.std.proofs.lemmas.Slice.Eq.{bytes_eq-Decides}
use Rattle.std.specs.Bool.{beq}
use Rattle.std.specs.List.{AllByRecursion, cons_option, enumerate_from}
use Rattle.std.specs.Option.{option_or}
use Rattle.std.proofs.Math.Bool.{or-true}
use Rattle.pl_lemmas.proofs.Options.{some_there, row_is}
use Rattle.pl_lemmas.proofs.Numbers.{same_number, equal_numbers}
use Rattle.pl_lemmas.specs.Words.{first_some, has_number, is_row, numbered, only_if, some_passes}
use Rattle.pl_state.specs.Kinds.{is_provider_goal, is_provider_row}
use Rattle.pl_state.specs.References.{has_urn}
use Rattle.pl_state.specs.declared.entry.Entry.{Entry}
use Rattle.pl_state.specs.declared.goal.Goal.{Goal}
use Rattle.pl_state.specs.declared.goal.Diffed.{Diffed}
use Rattle.pl_events.specs.declared.event.Event.{Event}
use Rattle.pl_decide.specs.Limited.{is_create_first}
use Rattle.pl_model.specs.declared.decided.Decided.{Decided}
use Rattle.pl_model.specs.declared.errand.Closed.{Closed}
use Rattle.pl_model.specs.declared.fixed.Fixed.{Fixed}
use Rattle.pl_model.specs.Run.{Pairs, rows_of}
use Rattle.pl_model.specs.Tickets.{answers_of}
use Rattle.pl_model.specs.Recording.{recorded_of, removed_by, removed_of}
use Rattle.pl_model.specs.Claims.{claim_by, claim_for, claimed_row, claimer_of, is_chained, is_claimed, may_claim}
use Rattle.pl_model.specs.Decisions.{checked_at, decided_by, decided_next, decided_of, diff_at, turn_of}
use Rattle.pl_model.specs.Entries.{Turning, old_row, row_now, turned, turned_entry, turning_of, turnings}
use Rattle.pl_model.specs.History.{known_of}
use Rattle.pl_model.specs.Known.{Known, claim_of, claim_row, decided_goal, goal_at, is_recorded}
use Rattle.pl_model.specs.Rows.{is_left, is_marked, is_replaced, is_taken_out, is_taken_over, recorded_claimer, row_at, stands_beside}
use Rattle.pl_model_stays.proofs.Lists.Growing.{decided_as, decisions-stay, numbered_more, recordings-stay, run_of}
use Rattle.pl_model_stays.proofs.Operations.Once.{history_of, left_parts}
use Rattle.pl_model_stays.proofs.Goals.Standing.{claim-of-decided}
use Rattle.pl_model_laws.specs.Apart.{AreApart, KeepsApart}

-- what is never so later was never so before
pub not_earlier : (later earlier : Bool) → (earlier ≡ true → later ≡ true) → later ≡ false → earlier ≡ false
not_earlier later false stays h = refl
not_earlier later true stays h = absurd (let e : true ≡ false = sym (stays refl) ∙ h in cc)

-- where it is false that one of two is so, neither is
pub neither : (a b : Bool) → (a || b) ≡ false → (a ≡ false) × (b ≡ false)
neither true b h = absurd (let e : true ≡ false = h in cc)
neither false b h = (refl, h)

-- ---- what a goal claims

-- a row that is not to be deleted
abbrev pub Unmarked : Fixed → ℕ → Type 0
Unmarked run row = (entry : Entry) × (slice_get (rows_of run) row ≡ Some entry) × (entry.doomed ≡ false)

-- what a claim needs: no goal before claims the row, and it is not to be deleted
abbrev pub MayClaim : Fixed → List Decided → ℕ → Type 0
MayClaim run before row = (is_claimed before row ≡ false) × Unmarked run row

-- no row is claimed twice, and none that is to be deleted
abbrev pub ClaimsApart : Fixed → List Decided → Type 0
ClaimsApart run [] = Unit
ClaimsApart run (one ∷ before) = ClaimsApart run before × ((row : ℕ) → is_row one.claim row ≡ true → MayClaim run before row)

-- what is found among numbered rows passes the test, and stands at its number
found_row : {X : Type 0} (test : ℕ × X → Bool) (n : ℕ) (xs : List X) (found : ℕ × X)
    → find test (enumerate_from n xs) ≡ Some found
    → (test found ≡ true) × (k : ℕ) × (found.0 ≡ n + k) × (slice_get xs k ≡ Some found.1)
found_row test n [] found h = absurd (let e : None ≡ Some found = h in cc)
found_row {X = X} test n (x ∷ xs) found h = by (test (n, x)) refl (found_row test (n + 1) xs found) h
  where
    by : (b : Bool) → test (n, x) ≡ b
        → (find test (enumerate_from (n + 1) xs) ≡ Some found
        → (test found ≡ true) × (k : ℕ) × (found.0 ≡ n + 1 + k) × (slice_get xs k ≡ Some found.1))
        → cond b (Some (n, x)) (find test (enumerate_from (n + 1) xs)) ≡ Some found
        → (test found ≡ true) × (k : ℕ) × (found.0 ≡ n + k) × (slice_get (x ∷ xs) k ≡ Some found.1)
    by true is rest h =
        let first : ℕ × X = (n, x) in
        let e : Some first ≡ Some found = h in
        let same : first ≡ found = cc in
        subst (λ (one : ℕ × X). (test one ≡ true) × (k : ℕ) × (one.0 ≡ n + k) × (slice_get (x ∷ xs) k ≡ Some one.1))
        same (is, 0, omega arith, refl)
    by false is rest h =
        let later : (test found ≡ true) × (k : ℕ) × (found.0 ≡ n + 1 + k) × (slice_get xs k ≡ Some found.1) = rest h in
        let k : ℕ = later.1 in
        let at : found.0 ≡ n + 1 + k = later.2 in
        (later.0, suc k, omega arith, later.3)

-- of the rules of a claim, the two that count here
claim_rules : (doomed named alike claimed free : Bool) → (not doomed && named && alike && not claimed && free) ≡ true
    → (claimed ≡ false) × (doomed ≡ false)
claim_rules true named alike claimed free h = absurd (let e : false ≡ true = h in cc)
claim_rules false false alike claimed free h = absurd (let e : false ≡ true = h in cc)
claim_rules false true false claimed free h = absurd (let e : false ≡ true = h in cc)
claim_rules false true true true free h = absurd (let e : false ≡ true = h in cc)
claim_rules false true true false free h = (refl, refl)

-- a row that is claimed by a URN may be claimed
claim_may : (run : Fixed) (before : List Decided) (goal : Goal) (urn : List ℕ) (row : ℕ)
    → claim_by run before goal urn ≡ Some row → MayClaim run before row
claim_may run before goal urn row h = by (find (may_claim run before goal urn) (enumerate_from 0 (rows_of run))) refl h
  where
    by : (o : Option (ℕ × Entry)) → find (may_claim run before goal urn) (enumerate_from 0 (rows_of run)) ≡ o
        → option_map (λ (one : ℕ × Entry). one.0) o ≡ Some row → MayClaim run before row
    by None is h = absurd (let e : None ≡ Some row = h in cc)
    by (Some found) is h =
        let at = found_row (may_claim run before goal urn) 0 (rows_of run) found is in
        let rules = claim_rules found.1.doomed (has_urn urn found.1) (beq (is_provider_goal goal) (is_provider_row found.1))
        (is_claimed before found.0) (not (is_chained run before found.0)) at.0 in
        let e : Some found.0 ≡ Some row = h in
        let number : found.0 ≡ row = cc in
        let k : ℕ = at.1 in
        let far : found.0 ≡ 0 + k = at.2 in
        let place : k ≡ found.0 = omega arith in
        subst (λ (n : ℕ). MayClaim run before n) number
        (rules.0, (found.1, subst (λ (n : ℕ). slice_get (rows_of run) n ≡ Some found.1) place at.3, rules.1))

-- what is found first was found for one of the list
first_found : {X Y : Type 0} (found : X → Option Y) (xs : List X) (y : Y)
    → first_some found xs ≡ Some y → (x : X) × (found x ≡ Some y)
first_found found [] y h = absurd (let e : None ≡ Some y = h in cc)
first_found {X = X} {Y = Y} found (x ∷ xs) y h = by (found x) refl (first_found found xs y) h
  where
    by : (o : Option Y) → found x ≡ o → (first_some found xs ≡ Some y → (other : X) × (found other ≡ Some y))
        → option_or o (first_some found xs) ≡ Some y → (other : X) × (found other ≡ Some y)
    by None is rest h = rest h
    by (Some other) is rest h = (x, is ∙ h)

-- what is decided of a goal claims the row that is the goal's to claim
decided_claim : (run : Fixed) (answers : List Closed) (earlier : List Goal) (before : List Decided) (goal : Goal)
    (one : Decided) → decided_next run answers earlier before goal ≡ Some one → one.claim ≡ claim_for run before goal
decided_claim run answers earlier before goal one h =
    by (length before == length earlier) (checked_at (turn_of run answers earlier before goal))
    (diff_at (turn_of run answers earlier before goal)) h
  where
    by : (b : Bool) (checked : Option Pairs) (diff : Option (Option Diffed))
        → (if b then option_and_then (λ (fields : Pairs).
        option_map (decided_by (turn_of run answers earlier before goal) fields) diff) checked else None) ≡ Some one
        → one.claim ≡ claim_for run before goal
    by false checked diff h = absurd (let e : None ≡ Some one = h in cc)
    by true None diff h = absurd (let e : None ≡ Some one = h in cc)
    by true (Some fields) None h = absurd (let e : None ≡ Some one = h in cc)
    by true (Some fields) (Some diff) h =
        let e : Some (decided_by (turn_of run answers earlier before goal) fields diff) ≡ Some one = h in
        let same : decided_by (turn_of run answers earlier before goal) fields diff ≡ one = cc in
        sym (ap (λ (it : Decided). it.claim) same)

-- so it claims a row that may be claimed
next_may : (run : Fixed) (answers : List Closed) (earlier : List Goal) (before : List Decided) (goal : Goal)
    (one : Decided) (row : ℕ) → decided_next run answers earlier before goal ≡ Some one → is_row one.claim row ≡ true
    → MayClaim run before row
next_may run answers earlier before goal one row h claims =
    let chosen : claim_for run before goal ≡ Some row =
    sym (decided_claim run answers earlier before goal one h) ∙ row_is one.claim row claims in
    let found = first_found (claim_by run before goal) (goal.urn ∷ goal.aliases) row chosen in
    claim_may run before goal found.0 row found.1

-- no row is claimed twice among what is decided one after another
decided_apart : (run : Fixed) (answers : List Closed) (goals : List Goal) → ClaimsApart run (decided_of run answers goals)
decided_apart run answers [] = tt
decided_apart run answers (goal ∷ earlier) =
    by (decided_next run answers earlier (decided_of run answers earlier) goal) refl (decided_apart run answers earlier)
  where
    by : (o : Option Decided) → decided_next run answers earlier (decided_of run answers earlier) goal ≡ o
        → ClaimsApart run (decided_of run answers earlier) → ClaimsApart run (cons_option o (decided_of run answers earlier))
    by None is rest = rest
    by (Some one) is rest =
        (rest, λ row claims. next_may run answers earlier (decided_of run answers earlier) goal one row is claims)

-- nor in what a history tells
pub known-apart : (run : Fixed) (history : List Event) → ClaimsApart run (known_of run history).decided
known-apart run history =
    subst (λ (ones : List Decided). ClaimsApart run ones) (sym (decided_as run history))
    (subst (λ (fixed : Fixed).
    ClaimsApart run (decided_of fixed (answers_of (known_of run history).history) (known_of run history).goals))
    (sym (run_of run history))
    (decided_apart run (answers_of (known_of run history).history) (known_of run history).goals))

-- ---- the goal that claims a row

-- what a decided goal claims is claimed
claimed_of : (decided : List Decided) (number row : ℕ) (one : Decided) → numbered decided number ≡ Some one
    → is_row one.claim row ≡ true → is_claimed decided row ≡ true
claimed_of [] number row one h claims = absurd (let e : None ≡ Some one = h in cc)
claimed_of (newest ∷ earlier) number row one h claims = by (length earlier == number) (claimed_of earlier number row one) h
  where
    by : (b : Bool) → (numbered earlier number ≡ Some one → is_row one.claim row ≡ true → is_claimed earlier row ≡ true)
        → (if b then Some newest else numbered earlier number) ≡ Some one
        → (is_row newest.claim row || is_claimed earlier row) ≡ true
    by true rest h =
        let e : Some newest ≡ Some one = h in
        let same : newest ≡ one = cc in
        ap (λ (it : Decided). is_row it.claim row || is_claimed earlier row) same
        ∙ ap (λ (b : Bool). b || is_claimed earlier row) claims
    by false rest h =
        ap (λ (b : Bool). is_row newest.claim row || b) (rest h claims) ∙ or-true (is_row newest.claim row)

-- the goal that claims a row is the only one
pub claimer_is : (run : Fixed) (decided : List Decided) (number row : ℕ) (one : Decided) → ClaimsApart run decided
    → numbered decided number ≡ Some one → is_row one.claim row ≡ true → claimer_of decided row ≡ Some number
claimer_is run [] number row one apart h claims = absurd (let e : None ≡ Some one = h in cc)
claimer_is run (newest ∷ earlier) number row one apart h claims =
    by (length earlier == number) refl (is_row newest.claim row) refl (claimer_is run earlier number row one apart.0) h
  where
    by : (b : Bool) → (length earlier == number) ≡ b → (c : Bool) → is_row newest.claim row ≡ c
        → (numbered earlier number ≡ Some one → is_row one.claim row ≡ true → claimer_of earlier row ≡ Some number)
        → (if b then Some newest else numbered earlier number) ≡ Some one
        → (if c then Some (length earlier) else claimer_of earlier row) ≡ Some number
    by true is true at rest h = ap (λ (n : ℕ). Some n) (equal_numbers (length earlier) number is)
    by true is false at rest h =
        let e : Some newest ≡ Some one = h in
        let same : newest ≡ one = cc in
        let both : false ≡ true = sym at ∙ ap (λ (it : Decided). is_row it.claim row) same ∙ claims in
        absurd (let e : false ≡ true = both in cc)
    by false is true at rest h =
        let both : true ≡ false = sym (claimed_of earlier number row one h claims) ∙ (apart.1 row at).0 in
        absurd (let e : true ≡ false = both in cc)
    by false is false at rest h = rest h claims

-- the goal that claims a row, with what is decided of it
pub claimer_found : (decided : List Decided) (row number : ℕ) → claimer_of decided row ≡ Some number
    → (one : Decided) × (numbered decided number ≡ Some one) × (is_row one.claim row ≡ true)
claimer_found [] row number h = absurd (let e : None ≡ Some number = h in cc)
claimer_found (newest ∷ earlier) row number h = by (is_row newest.claim row) refl (claimer_found earlier row number) h
  where
    by : (b : Bool) → is_row newest.claim row ≡ b
        → (claimer_of earlier row ≡ Some number
        → (one : Decided) × (numbered earlier number ≡ Some one) × (is_row one.claim row ≡ true))
        → (if b then Some (length earlier) else claimer_of earlier row) ≡ Some number
        → (one : Decided) × (numbered (newest ∷ earlier) number ≡ Some one) × (is_row one.claim row ≡ true)
    by true is rest h =
        let e : Some (length earlier) ≡ Some number = h in
        let at : length earlier ≡ number = cc in (
          newest,
          subst (λ (n : ℕ). numbered (newest ∷ earlier) n ≡ Some newest) at
              (ap (λ (b : Bool). if b then Some newest else numbered earlier (length earlier)) (same_number (length earlier))),
          is,
        )
    by false is rest h =
        let found : (one : Decided) × (numbered earlier number ≡ Some one) × (is_row one.claim row ≡ true) = rest h in
        (found.0, numbered_more newest earlier number found.0 found.1, found.2)

-- no two decided goals claim one row
pub claimed-once : (run : Fixed) (history : List Event) (a b : ℕ) (one other : Decided) (row : ℕ)
    → decided_goal (known_of run history) a ≡ Some one → decided_goal (known_of run history) b ≡ Some other
    → is_row one.claim row ≡ true → is_row other.claim row ≡ true → a ≡ b
claimed-once run history a b one other row first second claims too =
    let left : claimer_of (known_of run history).decided row ≡ Some a =
    claimer_is run (known_of run history).decided a row one (known-apart run history) first claims in
    let right : claimer_of (known_of run history).decided row ≡ Some b =
    claimer_is run (known_of run history).decided b row other (known-apart run history) second too in
    let e : Some a ≡ Some b = sym left ∙ right in
    cc

-- ---- rows that are taken over or replaced

-- a test that the recorded goal passes that claims a row
pub claimer_passes : (known : Known) (row number : ℕ) (test : ℕ → Bool) → claimer_of known.decided row ≡ Some number
    → is_recorded known number ≡ true → some_passes test (recorded_claimer known row) ≡ test number
claimer_passes known row number test claims recorded =
    ap (λ (o : Option ℕ).
    some_passes test (option_and_then (λ (goal : ℕ). only_if (is_recorded known goal) (Some goal)) o)) claims
    ∙ ap (λ (b : Bool). some_passes test (only_if b (Some number))) recorded

-- the recorded goal that claims a row and passes a test
pub claimer_parts : (known : Known) (row : ℕ) (test : ℕ → Bool) → some_passes test (recorded_claimer known row) ≡ true
    → (number : ℕ) × (claimer_of known.decided row ≡ Some number) × (is_recorded known number ≡ true) × (test number ≡ true)
claimer_parts known row test h = by (claimer_of known.decided row) refl h
  where
    at : (number : ℕ) (b : Bool) → is_recorded known number ≡ b → some_passes test (only_if b (Some number)) ≡ true
        → (is_recorded known number ≡ true) × (test number ≡ true)
    at number true is h = (is, h)
    at number false is h = absurd (let e : false ≡ true = h in cc)

    by : (o : Option ℕ) → claimer_of known.decided row ≡ o
        → some_passes test (option_and_then (λ (goal : ℕ). only_if (is_recorded known goal) (Some goal)) o) ≡ true
        → (number : ℕ) × (claimer_of known.decided row ≡ Some number) × (is_recorded known number ≡ true) × (test number ≡ true)
    by None is h = absurd (let e : false ≡ true = h in cc)
    by (Some number) is h =
        let rest = at number (is_recorded known number) refl h in
        (number, is, rest.0, rest.1)

-- and such a row is left
pub left_made : (below gone taken : Bool) → below ≡ true → gone ≡ false → taken ≡ false → (below && not gone && not taken) ≡ true
left_made true false false here stays free = refl
left_made true false true here stays free = absurd (let e : true ≡ false = free in cc)
left_made true true taken here stays free = absurd (let e : true ≡ false = stays in cc)
left_made false gone taken here stays free = absurd (let e : false ≡ true = here in cc)

-- a row that a recorded goal claims and that is left stands beside the goal's own thing
claimed_marked : (run : Fixed) (known : Known) (number : ℕ) (one : Decided) (row : ℕ) → ClaimsApart run known.decided
    → decided_goal known number ≡ Some one → is_row one.claim row ≡ true → is_recorded known number ≡ true
    → is_left known row ≡ true → is_marked known row ≡ true
claimed_marked run known number one row apart decided claims recorded left = by (stands_beside known number) refl
  where
    claimer : claimer_of known.decided row ≡ Some number
    claimer = claimer_is run known.decided number row one apart decided claims

    by : (b : Bool) → stands_beside known number ≡ b → is_marked known row ≡ true
    by true is =
        ap (λ (b : Bool). some_passes (λ (entry : Entry). entry.doomed) (row_at known row) || b)
        (claimer_passes known row number (stands_beside known) claimer recorded ∙ is)
        ∙ or-true (some_passes (λ (entry : Entry). entry.doomed) (row_at known row))
    by false is =
        let parts = left_parts (nat_lt row (length (rows_of known.run))) (is_taken_out known row)
        (is_taken_over known row) left in
        let taken : is_taken_over known row ≡ true =
        claimer_passes known row number (λ (goal : ℕ). not (stands_beside known goal)) claimer recorded
        ∙ ap (λ (b : Bool). not b) is in
        absurd (let e : true ≡ false = sym taken ∙ parts.2 in cc)

-- a row that a recorded goal claims is marked where it is left
pub claim-gone : (run : Fixed) (history : List Event) (number : ℕ) (one : Decided) (row : ℕ)
    → decided_goal (known_of run history) number ≡ Some one → is_row one.claim row ≡ true
    → is_recorded (known_of run history) number ≡ true → is_left (known_of run history) row ≡ true
    → is_marked (known_of run history) row ≡ true
claim-gone run history number one row = claimed_marked run (known_of run history) number one row (known-apart run history)

-- ---- what stays when a history grows

module _ (run : Fixed) (event : Event) (past : List Event) where
  abbrev before : Known
  before = known_of run past

  abbrev after : Known
  after = known_of run (event ∷ past)

  -- what stays so of a history stays so of the one that is told
  told_stays : (P : List Event → Type 0) → (P past → P (event ∷ past)) → P before.history → P after.history
  told_stays P stays h = subst P (sym (history_of run (event ∷ past))) (stays (subst P (history_of run past) h))

  recorded_stays : (number : ℕ) → is_recorded before number ≡ true → is_recorded after number ≡ true
  recorded_stays number =
      told_stays (λ (events : List Event). has_number (recorded_of events) number ≡ true)
      (recordings-stay run event past number)

  -- a row that was deleted or dropped stays so
  pub removed_more : (row : ℕ) → has_number (removed_of past) row ≡ true → has_number (removed_of (event ∷ past)) row ≡ true
  removed_more row h = by (removed_by past event.what)
    where
      by : (o : Option ℕ) → has_number (cons_option o (removed_of past)) row ≡ true
      by None = h
      by (Some other) = ap (λ (b : Bool). (other == row) || b) h ∙ or-true (other == row)

  -- nor does it come back in what the history tells
  pub removed_stays : (row : ℕ) → has_number (removed_of before.history) row ≡ true
      → has_number (removed_of after.history) row ≡ true
  removed_stays row = told_stays (λ (events : List Event). has_number (removed_of events) row ≡ true) (removed_more row)

  -- a recorded goal that claims a row does so ever after, and stands beside it as before
  pub claimer_stays : (row : ℕ) (test : Bool → Bool)
      → some_passes (λ (goal : ℕ). test (stands_beside before goal)) (recorded_claimer before row) ≡ true
      → some_passes (λ (goal : ℕ). test (stands_beside after goal)) (recorded_claimer after row) ≡ true
  claimer_stays row test h =
      let parts = claimer_parts before row (λ (goal : ℕ). test (stands_beside before goal)) h in
      let found = claimer_found before.decided row parts.0 parts.1 in
      let stays : decided_goal after parts.0 ≡ Some found.0 = decisions-stay run event past parts.0 found.0 found.1 in
      let claimer : claimer_of after.decided row ≡ Some parts.0 =
      claimer_is run after.decided parts.0 row found.0 (known-apart run (event ∷ past)) stays found.2 in
      let beside : stands_beside after parts.0 ≡ stands_beside before parts.0 =
      ap (λ (o : Option Decided). some_passes (λ (one : Decided). is_create_first one.decision) o) (stays ∙ sym found.1) in
      claimer_passes after row parts.0 (λ (goal : ℕ). test (stands_beside after goal)) claimer (recorded_stays parts.0 parts.2)
      ∙ ap (λ (b : Bool). test b) beside ∙ parts.3

  pub same_run : after.run ≡ before.run
  same_run = run_of run (event ∷ past) ∙ sym (run_of run past)

  -- a row that is not marked was not marked before
  pub unmarked-before : (row : ℕ) → is_marked after row ≡ false → is_marked before row ≡ false
  unmarked-before row h =
      let parts = neither (some_passes (λ (entry : Entry). entry.doomed) (row_at after row)) (is_replaced after row) h in
      let base : some_passes (λ (entry : Entry). entry.doomed) (row_at before row) ≡ false =
      subst (λ (fixed : Fixed). some_passes (λ (entry : Entry). entry.doomed) (slice_get (rows_of fixed) row) ≡ false)
      same_run parts.0 in
      ap (λ (b : Bool). b || is_replaced before row) base
      ∙ not_earlier (is_replaced after row) (is_replaced before row) (claimer_stays row (λ (b : Bool). b)) parts.1

-- ---- a row keeps its URN until it is marked

-- the rows that a history tells of are those of the run
pub row_of_run : (run : Fixed) (history : List Event) (row : ℕ) (found : Option Entry)
    → row_at (known_of run history) row ≡ found → slice_get (rows_of run) row ≡ found
row_of_run run history row found h =
    subst (λ (fixed : Fixed). slice_get (rows_of fixed) row ≡ found) (run_of run history) h

-- a row that is claimed is not to be deleted in the state at the start
claimed_base : (run : Fixed) (decided : List Decided) (number row : ℕ) (one : Decided) → ClaimsApart run decided
    → numbered decided number ≡ Some one → is_row one.claim row ≡ true → Unmarked run row
claimed_base run [] number row one apart h claims = absurd (let e : None ≡ Some one = h in cc)
claimed_base run (newest ∷ earlier) number row one apart h claims =
    by (length earlier == number) (claimed_base run earlier number row one apart.0) h
  where
    by : (b : Bool) → (numbered earlier number ≡ Some one → is_row one.claim row ≡ true → Unmarked run row)
        → (if b then Some newest else numbered earlier number) ≡ Some one → Unmarked run row
    by true rest h =
        let e : Some newest ≡ Some one = h in
        let same : newest ≡ one = cc in
        (apart.1 row (ap (λ (it : Decided). is_row it.claim row) same ∙ claims)).1
    by false rest h = rest h claims

-- the row that a decided goal claims is not to be deleted in the state at the start
pub claim-unmarked : (run : Fixed) (history : List Event) (number : ℕ) (one : Decided) (row : ℕ) (entry : Entry)
    → decided_goal (known_of run history) number ≡ Some one → is_row one.claim row ≡ true
    → row_at (known_of run history) row ≡ Some entry → entry.doomed ≡ false
claim-unmarked run history number one row entry decided claims at =
    let base = claimed_base run (known_of run history).decided number row one (known-apart run history) decided claims in
    let e : Some base.0 ≡ Some entry = sym base.1 ∙ row_of_run run history row (Some entry) at in
    let same : base.0 ≡ entry = cc in
    subst (λ (it : Entry). it.doomed ≡ false) same base.2

-- a claimed row has its claim
claimed_at : (run : Fixed) (claim : Option ℕ) (entry : Entry) → claimed_row run claim ≡ Some entry
    → (row : ℕ) × (claim ≡ Some row) × (slice_get (rows_of run) row ≡ Some entry)
claimed_at run None entry h = absurd (let e : None ≡ Some entry = h in cc)
claimed_at run (Some row) entry h = (row, refl, h)

-- the turning of a claimed row's URN into a goal's, unless they are the same
abbrev turning_if : Bool → Goal → Entry → Option Turning
turning_if same goal row = if same then None else Some (record { old = row.urn; new = goal.urn })

-- the URN that is turned is that of the claimed row
turned_from : (known : Known) (number : ℕ) (turning : Turning) → turning_of known number ≡ Some turning
    → (entry : Entry) × (claim_row known number ≡ Some entry) × (turning.old ≡ entry.urn)
turned_from known number turning h = by (goal_at known number) (claim_row known number) refl h
  where
    with_test : (goal : Goal) (row : Entry) (b : Bool) → turning_if b goal row ≡ Some turning → turning.old ≡ row.urn
    with_test goal row true h = absurd (let e : None ≡ Some turning = h in cc)
    with_test goal row false h =
        let made : Turning = record { old = row.urn; new = goal.urn } in
        let e : Some made ≡ Some turning = h in
        let same : made ≡ turning = cc in
        sym (ap (λ (it : Turning). it.old) same)

    by : (goal : Option Goal) (row : Option Entry) → claim_row known number ≡ row
        → option_and_then (λ (it : Goal).
        option_and_then (λ (entry : Entry). turning_if (bytes_eq entry.urn it.urn) it entry) row) goal ≡ Some turning
        → (entry : Entry) × (claim_row known number ≡ Some entry) × (turning.old ≡ entry.urn)
    by None row is h = absurd (let e : None ≡ Some turning = h in cc)
    by (Some goal) None is h = absurd (let e : None ≡ Some turning = h in cc)
    by (Some goal) (Some row) is h = (row, is, with_test goal row (bytes_eq row.urn goal.urn) h)

-- ---- what holds of each of a list

-- of two lists in a row
each_append : {X : Type 0} (P : X → Type 0) (xs ys : List X) → AllByRecursion P xs → AllByRecursion P ys
    → AllByRecursion P (xs ++ ys)
each_append P [] ys first second = second
each_append P (x ∷ xs) ys first second = (first.0, each_append P xs ys first.1 second)

-- of a list the other way round
each_reverse : {X : Type 0} (P : X → Type 0) (xs : List X) → AllByRecursion P xs → AllByRecursion P (reverse xs)
each_reverse P [] h = tt
each_reverse {X = X} P (x ∷ xs) h =
    subst (λ (ys : List X). AllByRecursion P ys) (sym (reverse-append (x ∷ []) xs))
    (each_append P (reverse xs) (x ∷ []) (each_reverse P xs h.1) (h.0, tt))

-- of each number that a list has
each_number : (P : ℕ → Type 0) (numbers : List ℕ) → ((n : ℕ) → has_number numbers n ≡ true → P n) → AllByRecursion P numbers
each_number P [] h = tt
each_number P (first ∷ others) h = (
  h first (ap (λ (b : Bool). b || has_number others first) (same_number first)),
  each_number P others (λ n is. h n (ap (λ (b : Bool). (first == n) || b) is ∙ or-true (first == n))),
)

-- of what is found for each of a list
each_found : {X Y : Type 0} (P : Y → Type 0) (found : X → Option Y) (xs : List X)
    → AllByRecursion (λ (x : X). (y : Y) → found x ≡ Some y → P y) xs → AllByRecursion P (filter_map found xs)
each_found P found [] h = tt
each_found {X = X} {Y = Y} P found (x ∷ xs) h = by (found x) refl (each_found P found xs h.1)
  where
    by : (o : Option Y) → found x ≡ o → AllByRecursion P (filter_map found xs)
        → AllByRecursion P (cons_option o (filter_map found xs))
    by None is rest = rest
    by (Some y) is rest = (h.0 y is, rest)

-- ---- turnings

-- an entry that no turning is about keeps its URN
unturned : (urn : List ℕ) (all : List Turning) (entry : Entry)
    → AllByRecursion (λ (turning : Turning). bytes_eq urn turning.old ≡ false) all → entry.urn ≡ urn
    → (fold turned_entry entry all).urn ≡ urn
unturned urn [] entry others is = is
unturned urn (turning ∷ all) entry others is =
    unturned urn all (turned_entry entry turning) others.1
    (ap (λ (text : List ℕ). turned turning text) is ∙ ap (λ (b : Bool). if b then turning.new else urn) others.0)

-- two rows with one URN that are not to be deleted are one row
pub same_row : (rows : List Entry) → KeepsApart rows → (i j : ℕ) (one other : Entry)
    → slice_get rows i ≡ Some one → slice_get rows j ≡ Some other → one.doomed ≡ false → other.doomed ≡ false
    → one.urn ≡ other.urn → i ≡ j
same_row rows apart i j one other first second stays too same = by (cases_lt i j) (cases_lt j i)
  where
    not_before : (a b : ℕ) (x y : Entry) → slice_get rows a ≡ Some x → slice_get rows b ≡ Some y → x.doomed ≡ false
        → y.doomed ≡ false → x.urn ≡ y.urn → a < b → ⊥
    not_before a b x y at_a at_b x_stays y_stays urns less =
        let within : b < length rows = slice_get_within rows b y at_b in
        let is_x : get_or rows a x ≡ x = get_or_from_slice_get rows a x x at_a in
        let is_y : get_or rows b x ≡ y = get_or_from_slice_get rows b y x at_b in
        let pair : AreApart x y =
        subst (λ (it : Entry). AreApart x it) is_y
        (subst (λ (it : Entry). AreApart it (get_or rows b x)) is_x (apart a b x less within)) in
        pair x_stays y_stays urns

    by : (i < j) ⊎ (j ≤ i) → (j < i) ⊎ (i ≤ j) → i ≡ j
    by (inl less) more = absurd (not_before i j one other first second stays too same less)
    by (inr most) (inl less) = absurd (not_before j i other one second first too stays (sym same) less)
    by (inr most) (inr least) = omega arith

module _ (run : Fixed) (history : List Event) (apart : KeepsApart (rows_of run))
    (decided : (m : ℕ) → is_recorded (known_of run history) m ≡ true → is_some (decided_goal (known_of run history) m) ≡ true)
    (row : ℕ) (entry : Entry) (at : row_at (known_of run history) row ≡ Some entry)
    (left : is_left (known_of run history) row ≡ true) (unmarked : is_marked (known_of run history) row ≡ false) where
  abbrev known : Known
  known = known_of run history

  -- the row is not to be deleted in the state at the start
  stays : entry.doomed ≡ false
  stays =
      let parts = neither (some_passes (λ (it : Entry). it.doomed) (row_at known row)) (is_replaced known row) unmarked in
      sym (ap (λ (o : Option Entry). some_passes (λ (it : Entry). it.doomed) o) at) ∙ parts.0

  abbrev IsOther : Turning → Type 0
  IsOther turning = bytes_eq entry.urn turning.old ≡ false

  -- whatever URN a goal turns is another one
  abbrev TurnsOther : ℕ → Type 0
  TurnsOther number = (turning : Turning) → turning_of known number ≡ Some turning → IsOther turning

  -- a recorded goal turns another URN
  other_urn : (number : ℕ) → is_recorded known number ≡ true → TurnsOther number
  other_urn number recorded turning h = by (bytes_eq entry.urn turning.old) refl
    where
      by : (b : Bool) → bytes_eq entry.urn turning.old ≡ b → b ≡ false
      by false is = refl
      by true is =
          let there = some_there (decided_goal known number) (decided number recorded) in
          let one : Decided = there.0 in
          let from = turned_from known number turning h in
          let claim = claimed_at known.run (claim_of known number) from.0 from.1 in
          let claims : one.claim ≡ Some claim.0 = sym (claim-of-decided known number there.0 there.1) ∙ claim.1 in
          let claimed : is_row one.claim claim.0 ≡ true =
          ap (λ (o : Option ℕ). is_row o claim.0) claims ∙ same_number claim.0 in
          let old : from.0.doomed ≡ false = claim-unmarked run history number there.0 claim.0 from.0 there.1 claimed claim.2 in
          let urns : entry.urn ≡ from.0.urn = (bytes_eq-Decides entry.urn turning.old).0 is ∙ from.2 in
          let same : row ≡ claim.0 =
          same_row (rows_of run) apart row claim.0 entry from.0 (row_of_run run history row (Some entry) at)
          (row_of_run run history claim.0 (Some from.0) claim.2) stays old urns in
          let marked : is_marked known row ≡ true =
          claim-gone run history number there.0 row there.1
          (subst (λ (n : ℕ). is_row one.claim n ≡ true) (sym same) claimed) recorded left in
          sym marked ∙ unmarked

  -- no turning is about the row's URN
  others : AllByRecursion IsOther (turnings known)
  others =
      each_found IsOther (turning_of known) (reverse (recorded_of known.history))
      (each_reverse TurnsOther (recorded_of known.history) (each_number TurnsOther (recorded_of known.history) other_urn))

  unmarked_row : (e : Entry) × (old_row known row ≡ Some e) × (e.urn ≡ entry.urn) × (e.doomed ≡ false)
  unmarked_row = (
    row_now known row entry,
    ap (λ (o : Option Entry). option_map (row_now known row) o) at,
    unturned entry.urn (turnings known) entry others refl,
    unmarked,
  )

-- a row that is left and not marked stands with the URN that it had
pub unmarked-urn : (run : Fixed) (history : List Event) (row : ℕ) (entry : Entry) → KeepsApart (rows_of run)
    → ((m : ℕ) → is_recorded (known_of run history) m ≡ true → is_some (decided_goal (known_of run history) m) ≡ true)
    → row_at (known_of run history) row ≡ Some entry → is_left (known_of run history) row ≡ true
    → is_marked (known_of run history) row ≡ false
    → (e : Entry) × (old_row (known_of run history) row ≡ Some e) × (e.urn ≡ entry.urn) × (e.doomed ≡ false)
unmarked-urn run history row entry apart decided at left unmarked =
    unmarked_row run history apart decided row entry at left unmarked
