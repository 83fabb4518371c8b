-- The claim of a goal at its turn is a row, which no goal claims.
use Rattle.std.proofs.Common.{◌≡◌, ◌<◌, ◌+◌, ℕ, Bool, true, false, not, ◌&&◌, ◌==◌, cond, if◌then◌else◌, List, [], ◌∷◌, length, Option, Some, None, option_map, refl, sym, ap, subst, ◌∙◌, arith}
use Rattle.std.proofs.lemmas.Option.{same_Some}
use Rattle.std.specs.Bool.{beq}
use Rattle.std.specs.List.{enumerate_from, find}
use Rattle.std.specs.Option.{IfSome, option_or}
use Rattle.pl_lemmas.specs.Words.{first_some}
use Rattle.pl_lemmas.proofs.Options.{mapped_some, then_some}
use Rattle.pl_lemmas.proofs.Truth.{and_left, and_right}
use Rattle.pl_state.specs.Kinds.{is_provider_goal, is_provider_row}
use Rattle.pl_state.specs.References.{has_urn}
use Rattle.pl_state.specs.declared.entry.Entry.{Entry}
use Rattle.pl_state.specs.declared.goal.Goal.{Goal}
use Rattle.pl_model.specs.declared.decided.Decided.{Decided}
use Rattle.pl_model.specs.declared.errand.Closed.{Closed}
use Rattle.pl_model.specs.declared.fixed.Fixed.{Fixed}
use Rattle.pl_model.specs.Claims.{claim_by, claim_for, is_chained, is_claimed, may_claim}
use Rattle.pl_model.specs.Decisions.{Turn, checked_at, decided_at, decided_by, diff_at, turn_in, turn_of}
use Rattle.pl_model.specs.Run.{Pairs, rows_of}
use Rattle.pl_claims.specs.Follows.{Decides}
use Rattle.pl_claims.proofs.Seen.{find_passes}

-- a row that a goal may claim: it is there, and no goal claims it
record IsFree (run : Fixed) (before : List Decided) (row : ℕ) : Type 0 where
  low : row < length (rows_of run)
  free : is_claimed before row ≡ false

find_low : {X : Type 0} (test : ℕ × X → Bool) (from : ℕ) (xs : List X) (one : ℕ × X) → find test (enumerate_from from xs) ≡ Some one
    → one.0 < from + length xs
find_low test from [] one is = absurd (let none : None ≡ Some one = is in cc)
find_low {X = X} test from (x ∷ xs) one is = by (test (from, x)) is (find_low test (from + 1) xs one)
  where
    by : (b : Bool) → cond b (Some (from, x)) (find test (enumerate_from (from + 1) xs)) ≡ Some one
        → (find test (enumerate_from (from + 1) xs) ≡ Some one → one.0 < from + 1 + length xs) → one.0 < from + length (x ∷ xs)
    by true here rest =
        let same : (from, x) ≡ one = same_Some (from, x) one here in
        let number : from ≡ one.0 = ap (λ (it : ℕ × X). it.0) same in
        omega arith
    by false later rest = let low : one.0 < from + 1 + length xs = rest later in omega arith

not_true : (b : Bool) → not b ≡ true → b ≡ false
not_true true h = absurd (let e : false ≡ true = h in cc)
not_true false h = refl

module _ (run : Fixed) (before : List Decided) (goal : Goal) where
  by_urn : (urn : List ℕ) (row : ℕ) → claim_by run before goal urn ≡ Some row → IsFree run before row
  by_urn urn row is =
      let found = mapped_some (λ (one : ℕ × Entry). one.0) (find (may_claim run before goal urn) (enumerate_from 0 (rows_of run))) row is in
      let one : ℕ × Entry = found.0 in
      let passes : may_claim run before goal urn one ≡ true =
      find_passes (may_claim run before goal urn) (enumerate_from 0 (rows_of run)) one found.1 in
      let below : one.0 < 0 + length (rows_of run) = find_low (may_claim run before goal urn) 0 (rows_of run) one found.1 in
      let number : one.0 ≡ row = found.2 in
      let part : (not one.1.doomed && has_urn urn one.1 && beq (is_provider_goal goal) (is_provider_row one.1) && not (is_claimed before one.0)) ≡ true =
      and_left (not one.1.doomed && has_urn urn one.1 && beq (is_provider_goal goal) (is_provider_row one.1) && not (is_claimed before one.0))
      (not (is_chained run before one.0)) passes in
      let own : not (is_claimed before one.0) ≡ true =
      and_right (not one.1.doomed && has_urn urn one.1 && beq (is_provider_goal goal) (is_provider_row one.1))
      (not (is_claimed before one.0)) part in
      record {
        low = omega arith;
        free = ap (is_claimed before) (sym number) ∙ not_true (is_claimed before one.0) own;
      }

  by_any : (urns : List (List ℕ)) (row : ℕ) → first_some (claim_by run before goal) urns ≡ Some row → IsFree run before row
  by_any [] row is = absurd (let none : None ≡ Some row = is in cc)
  by_any (urn ∷ urns) row is = by (claim_by run before goal urn) is (by_urn urn row) (by_any urns row)
    where
      by : (o : Option ℕ) → option_or o (first_some (claim_by run before goal) urns) ≡ Some row
          → (o ≡ Some row → IsFree run before row)
          → (first_some (claim_by run before goal) urns ≡ Some row → IsFree run before row) → IsFree run before row
      by (Some own) here one rest = one here
      by None later one rest = rest later

  all_free : IfSome (claim_for run before goal) (IsFree run before)
  all_free = by (claim_for run before goal) refl
    where
      by : (o : Option ℕ) → claim_for run before goal ≡ o → IfSome o (IsFree run before)
      by None is = tt
      by (Some row) is = by_any (goal.urn ∷ goal.aliases) row is

turn_free : (run : Fixed) (answers : List Closed) (goals : List Goal) (decided : List Decided) (turn : Turn)
    → turn_in run answers goals decided ≡ Some turn → IfSome turn.claim (IsFree run decided)
turn_free run answers [] decided turn h = absurd (let e : None ≡ Some turn = h in cc)
turn_free run answers (goal ∷ earlier) decided turn h = by (length earlier == length decided) h (turn_free run answers earlier decided turn)
  where
    by : (b : Bool) → (if b then Some (turn_of run answers earlier decided goal) else turn_in run answers earlier decided) ≡ Some turn
        → (turn_in run answers earlier decided ≡ Some turn → IfSome turn.claim (IsFree run decided)) → IfSome turn.claim (IsFree run decided)
    by true here rest =
        let same : turn_of run answers earlier decided goal ≡ turn = same_Some (turn_of run answers earlier decided goal) turn here in
        subst (λ (t : Turn). IfSome t.claim (IsFree run decided)) same (all_free run decided goal)
    by false later rest = rest later

-- what is decided at a turn has the turn's claim
claim_stays : (turn : Turn) (one : Decided) → decided_at turn ≡ Some one → turn.claim ≡ one.claim
claim_stays turn one gives =
    let checked = then_some (λ (fields : Pairs). option_map (decided_by turn fields) (diff_at turn)) (checked_at turn) one gives in
    let diff = mapped_some (decided_by turn checked.0) (diff_at turn) one checked.2 in
    ap (λ (it : Decided). it.claim) diff.2

next_free : (run : Fixed) (answers : List Closed) (goals : List Goal) (decided : List Decided) (one : Decided)
    → Decides run answers goals decided (Some one) → IfSome one.claim (IsFree run decided)
next_free run answers goals decided one next =
    subst (λ (o : Option ℕ). IfSome o (IsFree run decided)) (claim_stays next.turn one next.gives)
    (turn_free run answers goals decided next.turn next.is_next)

if_weaker : (o : Option ℕ) (P Q : ℕ → Type 0) → ((n : ℕ) → P n → Q n) → IfSome o P → IfSome o Q
if_weaker None P Q step h = tt
if_weaker (Some n) P Q step h = step n h

pub claim_low : (run : Fixed) (answers : List Closed) (goals : List Goal) (decided : List Decided) (one : Decided)
    → Decides run answers goals decided (Some one) → IfSome one.claim (λ row. row < length (rows_of run))
claim_low run answers goals decided one next =
    if_weaker one.claim (IsFree run decided) (λ row. row < length (rows_of run)) (λ row it. it.low) (next_free run answers goals decided one next)

pub claim_free : (run : Fixed) (answers : List Closed) (goals : List Goal) (decided : List Decided) (one : Decided)
    → Decides run answers goals decided (Some one) → IfSome one.claim (λ row. is_claimed decided row ≡ false)
claim_free run answers goals decided one next =
    if_weaker one.claim (IsFree run decided) (λ row. is_claimed decided row ≡ false) (λ row it. it.free) (next_free run answers goals decided one next)
