-- A goal's URN is free once the goals before it are recorded and the rows of their chains are gone.
use Rattle.std.proofs.Common.{◌≡◌, ℕ, zero, suc, ◌+◌, ◌<◌, ◌==◌, Bool, true, false, not, ◌&&◌, ◌||◌, cond, List, [], ◌∷◌, length, bytes_eq, find, Option, Some, None, refl, sym, ◌∙◌, ap, subst, inl, inr, ◌⊎◌, arith, slice_get, option_map}
use Rattle.std.proofs.lemmas.Slice.Eq.{bytes_eq-Decides}
use Rattle.std.specs.Bool.{beq}
use Rattle.std.specs.List.{enumerate_from, list_any}
use Rattle.std.specs.Option.{option_or}
use Rattle.std.proofs.lemmas.Option.{same_Some}
use Rattle.pl_lemmas.proofs.Numbers.{same_number}
use Rattle.pl_lemmas.specs.Words.{first_some, has_number, is_row, numbered, some_passes}
use Rattle.pl_lemmas.proofs.Options.{passing}
use Rattle.pl_state.specs.Kinds.{is_of_provider, is_provider_goal, is_provider_row}
use Rattle.pl_state.specs.References.{has_urn}
use Rattle.pl_state.specs.declared.entry.Entry.{Entry}
use Rattle.pl_state.specs.declared.goal.Goal.{Goal}
use Rattle.pl_events.specs.declared.event.Event.{Event}
use Rattle.pl_model.specs.declared.decided.Decided.{Decided}
use Rattle.pl_model.specs.declared.fixed.Fixed.{Fixed}
use Rattle.pl_model.specs.Run.{rows_of}
use Rattle.pl_model.specs.Tickets.{answers_of}
use Rattle.pl_model.specs.Claims.{chain_of_goal, claim_by, claim_for, is_chained, is_claimed, may_claim}
use Rattle.pl_model.specs.Decisions.{turn_of}
use Rattle.pl_model.specs.Due.{holds_urn, urn_is_free}
use Rattle.pl_model.specs.Entries.{old_row, row_now}
use Rattle.pl_model.specs.History.{known_of}
use Rattle.pl_model.specs.Known.{Known, decided_goal, goal_at, is_recorded}
use Rattle.pl_model.specs.Legal.{IsOrderly}
use Rattle.pl_model.specs.Rows.{is_left, is_marked, is_replaced, row_at, row_numbers}
use Rattle.pl_model_stays.proofs.Goals.Claiming.{WasMade, decided_parts, found_at, passing_number, was-made}
use Rattle.pl_model_stays.proofs.Lists.Growing.{Grown, numbered_below, numbered_grown}
use Rattle.pl_model_laws.specs.Apart.{KeepsApart}
use Rattle.pl_model_laws.proofs.Rows.Leaving.{claim-gone, neither, row_of_run, same_row, unmarked-urn}
use Rattle.pl_model_laws.proofs.Rows.Removing.{grown_behind}
use Rattle.pl_model_laws.proofs.Rows.TakenOver.{all-decided}

-- ---- what is found

-- what some pass, one of the list passes
passing_one : {X : Type 0} (test : X → Bool) (xs : List X) → list_any test xs ≡ true → (x : X) × (test x ≡ true)
passing_one test [] h = absurd (let e : false ≡ true = h in cc)
passing_one {X = X} test (first ∷ others) h = by (test first) refl h (passing_one test others)
  where
    by : (b : Bool) → test first ≡ b → (b || list_any test others) ≡ true
        → (list_any test others ≡ true → (x : X) × (test x ≡ true)) → (x : X) × (test x ≡ true)
    by true is h rest = (first, is)
    by false is h rest = rest h

-- what is made of something has something that it is made of
made_from : {X Y : Type 0} (f : X → Y) (o : Option X) (y : Y) → option_map f o ≡ Some y → (x : X) × (o ≡ Some x)
made_from f None y h = absurd (let e : None ≡ Some y = h in cc)
made_from f (Some x) y h = (x, refl)

-- where none of numbered ones is found, none passes
none_found : {X : Type 0} (test : ℕ × X → Bool) (n : ℕ) (xs : List X) → find test (enumerate_from n xs) ≡ None
    → (k : ℕ) (x : X) → slice_get xs k ≡ Some x → test (n + k, x) ≡ false
none_found test n [] h zero x at = absurd (let e : None ≡ Some x = at in cc)
none_found test n [] h (suc k) x at = absurd (let e : None ≡ Some x = at in cc)
none_found {X = X} test n (first ∷ others) h k x at = by (test (n, first)) refl h (none_found test (n + 1) others) k at
  where
    by : (b : Bool) → test (n, first) ≡ b → cond b (Some (n, first)) (find test (enumerate_from (n + 1) others)) ≡ None
        → (find test (enumerate_from (n + 1) others) ≡ None
        → (j : ℕ) (y : X) → slice_get others j ≡ Some y → test (n + 1 + j, y) ≡ false)
        → (j : ℕ) → slice_get (first ∷ others) j ≡ Some x → test (n + j, x) ≡ false
    by true is h rest j at = absurd (let e : Some (n, first) ≡ None = h in cc)
    by false is h rest zero at =
        let same : first ≡ x = same_Some first x at in
        let here : n ≡ n + 0 = omega arith in
        subst (λ (m : ℕ). test (m, x) ≡ false) here (subst (λ (y : X). test (n, y) ≡ false) same is)
    by false is h rest (suc j) at =
        let here : n + 1 + j ≡ n + suc j = omega arith in
        subst (λ (m : ℕ). test (m, x) ≡ false) here (rest h j x at)

-- ---- the rules

-- what holds a URN is left, not marked and not the claim, and has the URN
holds_parts : (left marked claimed named : Bool) → (left && not marked && not claimed && named) ≡ true
    → (left ≡ true) × (marked ≡ false) × (claimed ≡ false) × (named ≡ true)
holds_parts true false false true h = (refl, refl, refl, refl)
holds_parts true false false false h = absurd (let e : false ≡ true = h in cc)
holds_parts true false true named h = absurd (let e : false ≡ true = h in cc)
holds_parts true true claimed named h = absurd (let e : false ≡ true = h in cc)
holds_parts false marked claimed named h = absurd (let e : false ≡ true = h in cc)

-- a row that is claimed by a URN has it, and is not to be deleted
rules_named : (doomed named alike claimed chained : Bool) → (not doomed && named && alike && not claimed && not chained) ≡ true
    → (doomed ≡ false) × (named ≡ true)
rules_named false true alike claimed chained h = (refl, refl)
rules_named false false alike claimed chained h = absurd (let e : false ≡ true = h in cc)
rules_named true named alike claimed chained h = absurd (let e : false ≡ true = h in cc)

-- a row with the URN that a goal may not claim is claimed before, or in a chain
rules_taken : (doomed named alike claimed chained : Bool) → (not doomed && named && alike && not claimed && not chained) ≡ false
    → doomed ≡ false → named ≡ true → alike ≡ true → (claimed ≡ true) ⊎ (chained ≡ true)
rules_taken false true true true chained h stays has like = inl refl
rules_taken false true true false true h stays has like = inr refl
rules_taken false true true false false h stays has like = absurd (let e : true ≡ false = h in cc)
rules_taken false true false claimed chained h stays has like = absurd (let e : false ≡ true = like in cc)
rules_taken false false alike claimed chained h stays has like = absurd (let e : false ≡ true = has in cc)
rules_taken true named alike claimed chained h stays has like = absurd (let e : true ≡ false = stays in cc)

beq_same : (b : Bool) → beq b b ≡ true
beq_same true = refl
beq_same false = refl

-- the row that a goal claims by a URN has it
claimed_named : (run : Fixed) (before : List Decided) (goal : Goal) (urn : List ℕ) (row : ℕ) → claim_by run before goal urn ≡ Some row
    → (entry : Entry) × (slice_get (rows_of run) row ≡ Some entry) × (entry.doomed ≡ false) × (entry.urn ≡ urn)
claimed_named run before goal urn row h = by (find (may_claim run before goal urn) (enumerate_from 0 (rows_of run))) refl h
  where
    by : (o : Option (ℕ × Entry)) → find (may_claim run before goal urn) (enumerate_from 0 (rows_of run)) ≡ o
        → option_map (λ (found : ℕ × Entry). found.0) o ≡ Some row
        → (entry : Entry) × (slice_get (rows_of run) row ≡ Some entry) × (entry.doomed ≡ false) × (entry.urn ≡ urn)
    by None is h = absurd (let e : None ≡ Some row = h in cc)
    by (Some found) is h =
        let place = found_at (may_claim run before goal urn) 0 (rows_of run) found is in
        let rules = rules_named found.1.doomed (has_urn urn found.1) (beq (is_provider_goal goal) (is_provider_row found.1))
        (is_claimed before found.0) (is_chained run before found.0) place.1 in
        let k : ℕ = place.0 in
        let far : found.0 ≡ 0 + k = place.2 in
        let same : k ≡ found.0 = omega arith in (
          found.1,
          subst (λ (n : ℕ). slice_get (rows_of run) n ≡ Some found.1) (same ∙ same_Some found.0 row h) place.3,
          rules.0,
          (bytes_eq-Decides found.1.urn urn).0 rules.1,
        )

-- a row with a goal's URN that it does not claim by it is claimed before, or in a chain
unclaimed_taken : (run : Fixed) (before : List Decided) (goal : Goal) (row : ℕ) (entry : Entry)
    → claim_by run before goal goal.urn ≡ None → slice_get (rows_of run) row ≡ Some entry → entry.doomed ≡ false → entry.urn ≡ goal.urn
    → (is_claimed before row ≡ true) ⊎ (is_chained run before row ≡ true)
unclaimed_taken run before goal row entry h at stays same =
    by (find (may_claim run before goal goal.urn) (enumerate_from 0 (rows_of run))) refl h
  where
    by : (o : Option (ℕ × Entry)) → find (may_claim run before goal goal.urn) (enumerate_from 0 (rows_of run)) ≡ o
        → option_map (λ (found : ℕ × Entry). found.0) o ≡ None → (is_claimed before row ≡ true) ⊎ (is_chained run before row ≡ true)
    by (Some found) is h = absurd (let e : Some found.0 ≡ None = h in cc)
    by None is h =
        let here : 0 + row ≡ row = omega arith in
        let fails : may_claim run before goal goal.urn (row, entry) ≡ false =
        subst (λ (n : ℕ). may_claim run before goal goal.urn (n, entry) ≡ false) here
        (none_found (may_claim run before goal goal.urn) 0 (rows_of run) is row entry at) in
        rules_taken entry.doomed (has_urn goal.urn entry) (beq (is_provider_goal goal) (is_provider_row entry))
        (is_claimed before row) (is_chained run before row) fails stays
        ((bytes_eq-Decides entry.urn goal.urn).1 same)
        (ap (λ (urn : List ℕ). beq (is_of_provider goal.urn) (is_of_provider urn)) same ∙ beq_same (is_of_provider goal.urn))

-- ---- the goal's URN

module _ (run : Fixed) (history : List Event) (n : ℕ) (goal : Goal) (one : Decided)
    (orderly : IsOrderly run history) (apart : KeepsApart (rows_of run))
    (stands : goal_at (known_of run history) n ≡ Some goal) (decided : decided_goal (known_of run history) n ≡ Some one)
    (recorded : (m : ℕ) → m < n → is_recorded (known_of run history) m ≡ true)
    (gone : (m : ℕ) (before : Decided) (row : ℕ) → m < n → decided_goal (known_of run history) m ≡ Some before
    → has_number (chain_of_goal run before) row ≡ true → is_left (known_of run history) row ≡ false) where
  abbrev known : Known
  known = known_of run history

  -- what was decided before the goal is decided of earlier goals
  earlier : (made : WasMade run history n one) (m : ℕ) (other : Decided) → numbered made.before m ≡ Some other
      → (m < n) × (decided_goal known m ≡ Some other)
  earlier made m other h =
      let count : length made.before ≡ n = made.count in
      let low : m < length made.before = numbered_below made.before m other h in
      let grown : Grown made.before known.decided = grown_behind one made.before known.decided made.behind in
      (omega arith, numbered_grown made.before known.decided m other grown h)

  -- an unmarked row that is left is neither claimed before the goal nor in a chain
  not_taken : (made : WasMade run history n one) (row : ℕ) → is_left known row ≡ true → is_marked known row ≡ false
      → (is_claimed made.before row ≡ true) ⊎ (is_chained run made.before row ≡ true) → ⊥
  not_taken made row left unmarked (inl claimed) =
      let found = passing_number (λ (it : Decided). is_row it.claim row) made.before claimed in
      let there = earlier made found.0 found.1 found.2 in
      let e : true ≡ false =
      sym (claim-gone run history found.0 found.1 row there.1 found.3 (recorded found.0 there.0) left) ∙ unmarked in
      cc
  not_taken made row left unmarked (inr chained) =
      let found = passing_number (λ (it : Decided). has_number (chain_of_goal run it) row) made.before chained in
      let there = earlier made found.0 found.1 found.2 in
      let e : true ≡ false = sym left ∙ gone found.0 found.1 row there.0 there.1 found.3 in
      cc

  -- a row with the goal's URN is the goal's claim
  claims_own : (row : ℕ) (entry : Entry) → row_at known row ≡ Some entry → is_left known row ≡ true → is_marked known row ≡ false
      → entry.urn ≡ goal.urn → is_row one.claim row ≡ true
  claims_own row entry at left unmarked same =
      by (claim_by run made.before made.goal made.goal.urn) refl
    where
      made : WasMade run history n one
      made = was-made run history n one decided

      own : made.goal ≡ goal
      own = same_Some made.goal goal (sym made.stands ∙ stands)

      based : slice_get (rows_of run) row ≡ Some entry
      based = row_of_run run history row (Some entry) at

      stays : entry.doomed ≡ false
      stays =
          let parts = neither (some_passes (λ (it : Entry). it.doomed) (row_at known row)) (is_replaced known row) unmarked in
          sym (ap (λ (o : Option Entry). some_passes (λ (it : Entry). it.doomed) o) at) ∙ parts.0

      named : entry.urn ≡ made.goal.urn
      named = same ∙ sym (ap (λ (it : Goal). it.urn) own)

      claims : claim_for run made.before made.goal ≡ one.claim
      claims =
          let parts = decided_parts (turn_of run (answers_of known.history) made.earlier made.before made.goal) one made.made in
          ap (λ (it : Decided). it.claim) parts.2

      by : (o : Option ℕ) → claim_by run made.before made.goal made.goal.urn ≡ o → is_row one.claim row ≡ true
      by (Some other) is =
          let found = claimed_named run made.before made.goal made.goal.urn other is in
          let rows : row ≡ other =
          same_row (rows_of run) apart row other entry found.0 based found.1 stays found.2 (named ∙ sym found.3) in
          let first : one.claim ≡ Some other =
          sym claims ∙ ap (λ (o : Option ℕ). option_or o (first_some (claim_by run made.before made.goal) made.goal.aliases)) is in
          ap (λ (o : Option ℕ). is_row o row) first
          ∙ subst (λ (k : ℕ). (k == row) ≡ true) rows (same_number row)
      by None is =
          absurd (not_taken made row left unmarked (unclaimed_taken run made.before made.goal row entry is based stays named))

  -- no row holds the goal's URN
  none_holds : (row : ℕ) → holds_urn known goal one row ≡ true → ⊥
  none_holds row h =
      let parts = holds_parts (is_left known row) (is_marked known row) (is_row one.claim row) _ h in
      let now = passing (λ (entry : Entry). bytes_eq entry.urn goal.urn) (old_row known row) parts.3 in
      let base = made_from (row_now known row) (row_at known row) now.0 now.1 in
      let was = unmarked-urn run history row base.0 apart (all-decided run history orderly) base.1 parts.0 parts.1 in
      let same : was.0 ≡ now.0 = same_Some was.0 now.0 (sym was.1 ∙ now.1) in
      let urns : base.0.urn ≡ goal.urn =
      sym was.2 ∙ ap (λ (it : Entry). it.urn) same ∙ (bytes_eq-Decides now.0.urn goal.urn).0 now.2 in
      let e : true ≡ false = sym (claims_own row base.0 base.1 parts.0 parts.1 urns) ∙ parts.2 in
      cc

  urn_free : urn_is_free known goal one ≡ true
  urn_free = by (list_any (holds_urn known goal one) (row_numbers known)) refl
    where
      by : (b : Bool) → list_any (holds_urn known goal one) (row_numbers known) ≡ b → not b ≡ true
      by false is = refl
      by true is =
          let found = passing_one (holds_urn known goal one) (row_numbers known) is in
          absurd (none_holds found.0 found.1)

-- where the goals before a goal are recorded and the rows of their chains are gone, its URN is free
pub urn-ready : (run : Fixed) (history : List Event) (n : ℕ) (goal : Goal) (one : Decided)
    → IsOrderly run history → KeepsApart (rows_of run)
    → goal_at (known_of run history) n ≡ Some goal → decided_goal (known_of run history) n ≡ Some one
    → ((m : ℕ) → m < n → is_recorded (known_of run history) m ≡ true)
    → ((m : ℕ) (before : Decided) (row : ℕ) → m < n → decided_goal (known_of run history) m ≡ Some before
    → has_number (chain_of_goal run before) row ≡ true → is_left (known_of run history) row ≡ false)
    → urn_is_free (known_of run history) goal one ≡ true
urn-ready run history n goal one orderly apart stands decided recorded gone =
    urn_free run history n goal one orderly apart stands decided recorded gone
