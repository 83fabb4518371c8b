-- The marks with one decision more.
use Rattle.std.proofs.Common.{◌≡◌, ◌<◌, ◌≤◌, ◌+◌, ℕ, zero, suc, Bool, true, false, ◌==◌, ◌&&◌, ◌||◌, ◌⊎◌, if◌then◌else◌, List, [], ◌∷◌, length, map, replicate, take, get_or, Option, Some, None, option_map, option_and_then, refl, sym, ap, subst, ◌∙◌, inl, inr, arith}
use Rattle.std.proofs.lemmas.List.{get_or-replicate, length-replicate}
use Rattle.std.proofs.lemmas.List.Folds.{list_any_more}
use Rattle.std.proofs.lemmas.Option.{slice_get_cases}
use Rattle.std.proofs.Math.Bool.{and-false, and_comm, or-true}
use Rattle.std.specs.List.{list_any, slice_get}
use Rattle.std.specs.Option.{IfSome}
use Rattle.pl_lemmas.specs.Words.{has_number, is_row, some_passes}
use Rattle.pl_lemmas.proofs.Numbers.{equal_numbers, same_number}
use Rattle.pl_lemmas.proofs.Options.{or_none}
use Rattle.pl_decide.specs.Limited.{is_delete_first}
use Rattle.pl_model.specs.declared.decided.Decided.{Decided}
use Rattle.pl_model.specs.declared.fixed.Fixed.{Fixed}
use Rattle.pl_model.specs.Run.{rows_of}
use Rattle.pl_model.specs.Claims.{chain_of_goal, claimer_of}
use Rattle.pl_claims.specs.declared.mark.Mark.{Mark}
use Rattle.pl_claims.specs.Marks.{AreMarked, chained_by, chained_with, chained_without, claimed_by, first_chained, joined_by, left_by, no_mark, unchained_by, unmarked}
use Rattle.pl_claims.proofs.Chains.{chain_within}

-- ---- nothing decided

pub map_length : {X Y : Type 0} (f : X → Y) (xs : List X) → length (map f xs) ≡ length xs
map_length f [] = refl
map_length f (x ∷ xs) = ap suc (map_length f xs)

replicated : (n row : ℕ) → (slice_get (replicate n no_mark) row ≡ Some no_mark) ⊎ (slice_get (replicate n no_mark) row ≡ None)
replicated n row = elim ((slice_get_cases (replicate n no_mark) row).1) [
  | inl there ↦
      let low : row < n = subst (λ (k : ℕ). row < k) (length-replicate n no_mark) there.1 in
      inl (there.2 ∙ ap (λ (m : Mark). Some m) (sym there.3 ∙ get_or-replicate n row no_mark there.0 low))
  | inr beyond ↦ inr beyond.1
]

none_told : {X : Type 0} (reads : Option Mark → X) (none : X) → none ≡ reads (Some no_mark) → none ≡ reads None
    → (n row : ℕ) → none ≡ reads (slice_get (replicate n no_mark) row)
none_told reads none some past n row = elim (replicated n row) [
  | inl there ↦ some ∙ ap reads (sym there)
  | inr beyond ↦ past ∙ ap reads (sym beyond)
]

pub none_marked : (run : Fixed) → AreMarked run [] (replicate (length (rows_of run)) no_mark)
none_marked run = record {
  count = length-replicate (length (rows_of run)) no_mark;
  claimers = none_told {X = Option ℕ} (option_and_then (λ (mark : Mark). mark.claimer)) None refl refl (length (rows_of run));
  chains = none_told {X = Option ℕ} (option_and_then (λ (mark : Mark). mark.chained)) None refl refl (length (rows_of run));
  deletions = none_told {X = Bool} (some_passes (λ (mark : Mark). mark.deleted_first)) false refl refl (length (rows_of run));
}

-- ---- the rows of a chain

with_twice : (marked : Option ℕ) (a b : Bool) (goal : ℕ) → chained_with (chained_with marked a goal) b goal ≡ chained_with marked (a || b) goal
with_twice (Some first) a b goal = refl
with_twice None true b goal = refl
with_twice None false b goal = refl

unmarked_twice : (marked : Option ℕ) (goal : ℕ) → unmarked (unmarked marked goal) goal ≡ unmarked marked goal
unmarked_twice None goal = refl
unmarked_twice (Some first) goal = by (first == goal) refl
  where
    by : (b : Bool) → (first == goal) ≡ b → unmarked (unmarked (Some first) goal) goal ≡ unmarked (Some first) goal
    by true is =
        ap (λ (t : Bool). unmarked (if t then None else Some first) goal) is
        ∙ sym (ap (λ (t : Bool). if t then None else Some first) is)
    by false is = ap (λ (t : Bool). unmarked (if t then None else Some first) goal) is

without_twice : (marked : Option ℕ) (a b : Bool) (goal : ℕ)
    → chained_without (chained_without marked a goal) b goal ≡ chained_without marked (a || b) goal
without_twice marked true true goal = unmarked_twice marked goal
without_twice marked true false goal = refl
without_twice marked false b goal = refl

module _ (goal : ℕ) (chain : List ℕ) (i : ℕ) (inside : i < length chain) (row : ℕ) where
  one_more : (has_number (take i chain) row || (get_or chain i 0 == row)) ≡ has_number (take (i + 1) chain) row
  one_more = sym (list_any_more (λ (other : ℕ). other == row) chain i 0 inside)

  -- one row of the chain more is marked
  pub chain_more : (o : Option Mark)
      → option_map (joined_by goal (get_or chain i 0) row) (option_map (chained_by goal (take i chain) row) o) ≡ option_map (chained_by goal (take (i + 1) chain) row) o
  chain_more None = refl
  chain_more (Some mark) =
      let same : chained_with (chained_with mark.chained (has_number (take i chain) row) goal) (get_or chain i 0 == row) goal
      ≡ chained_with mark.chained (has_number (take (i + 1) chain) row) goal =
      with_twice mark.chained (has_number (take i chain) row) (get_or chain i 0 == row) goal
      ∙ ap (λ (b : Bool). chained_with mark.chained b goal) one_more in
      λ k. Some (record { claimer = mark.claimer; chained = same k; deleted_first = mark.deleted_first })

  -- one row of the chain more is free
  pub chain_less : (o : Option Mark)
      → option_map (left_by goal (get_or chain i 0) row) (option_map (unchained_by goal (take i chain) row) o) ≡ option_map (unchained_by goal (take (i + 1) chain) row) o
  chain_less None = refl
  chain_less (Some mark) =
      let same : chained_without (chained_without mark.chained (has_number (take i chain) row) goal) (get_or chain i 0 == row) goal
      ≡ chained_without mark.chained (has_number (take (i + 1) chain) row) goal =
      without_twice mark.chained (has_number (take i chain) row) (get_or chain i 0 == row) goal
      ∙ ap (λ (b : Bool). chained_without mark.chained b goal) one_more in
      λ k. Some (record { claimer = mark.claimer; chained = same k; deleted_first = mark.deleted_first })

-- each number of a list is in it
pub number_there : (numbers : List ℕ) (i : ℕ) → i < length numbers → has_number numbers (get_or numbers i 0) ≡ true
number_there [] i inside = absurd (omega arith)
number_there (n ∷ numbers) zero inside = ap (λ (b : Bool). b || has_number numbers n) (same_number n)
number_there (n ∷ numbers) (suc i) inside =
    ap (λ (b : Bool). (n == get_or numbers i 0) || b) (number_there numbers i (omega arith)) ∙ or-true (n == get_or numbers i 0)

-- ---- one decision more

module _ (run : Fixed) (before : List Decided) (marks : List Mark) (one : Decided) (agree : AreMarked run before marks)
    (claim : IfSome one.claim (λ row. row < length (rows_of run))) where
  -- what a decision changes of a row's mark
  abbrev pub decided_mark : ℕ → Mark → Mark
  decided_mark row mark = chained_by (length before) (chain_of_goal run one) row (claimed_by (length before) one.claim (is_delete_first one.decision) row mark)

  claim_within : (row : ℕ) → is_row one.claim row ≡ true → row < length (rows_of run)
  claim_within row h = by one.claim claim h
    where
      by : (o : Option ℕ) → IfSome o (λ n. n < length (rows_of run)) → is_row o row ≡ true → row < length (rows_of run)
      by None low h = absurd (let e : false ≡ true = h in cc)
      by (Some own) low h = subst (λ (n : ℕ). n < length (rows_of run)) (equal_numbers own row h) low

  -- a test that holds of rows alone fails where there is none
  past : (test : Bool) (row : ℕ) → slice_get marks row ≡ None → (test ≡ true → row < length (rows_of run)) → test ≡ false
  past false row none low = refl
  past true row none low = elim ((slice_get_cases marks row).1) [
    | inl there ↦ absurd (let e : None ≡ Some there.0 = sym none ∙ there.2 in cc)
    | inr beyond ↦
        let most : length marks ≤ row = beyond.0 in
        let all : length marks ≡ length (rows_of run) = agree.count in
        let less : row < length (rows_of run) = low refl in
        absurd (omega arith)
  ]

  claimers : (row : ℕ) → claimer_of (one ∷ before) row ≡ option_and_then (λ mark. mark.claimer) (option_map (decided_mark row) (slice_get marks row))
  claimers row = by (slice_get marks row) refl
    where
      by : (o : Option Mark) → slice_get marks row ≡ o
          → (if is_row one.claim row then Some (length before) else claimer_of before row)
          ≡ option_and_then (λ mark. mark.claimer) (option_map (decided_mark row) o)
      by None is =
          ap (λ (b : Bool). if b then Some (length before) else claimer_of before row) (past (is_row one.claim row) row is (claim_within row))
          ∙ agree.claimers row ∙ ap (option_and_then (λ mark. mark.claimer)) is
      by (Some mark) is =
          ap (λ (o : Option ℕ). if is_row one.claim row then Some (length before) else o)
          (agree.claimers row ∙ ap (option_and_then (λ mark. mark.claimer)) is)

  chains : (row : ℕ) → first_chained run (one ∷ before) row ≡ option_and_then (λ mark. mark.chained) (option_map (decided_mark row) (slice_get marks row))
  chains row = by (slice_get marks row) refl
    where
      by : (o : Option Mark) → slice_get marks row ≡ o
          → chained_with (first_chained run before row) (has_number (chain_of_goal run one) row) (length before)
          ≡ option_and_then (λ mark. mark.chained) (option_map (decided_mark row) o)
      by None is =
          ap (λ (b : Bool). chained_with (first_chained run before row) b (length before))
          (past (has_number (chain_of_goal run one) row) row is (chain_within run one row))
          ∙ or_none (first_chained run before row)
          ∙ agree.chains row ∙ ap (option_and_then (λ mark. mark.chained)) is
      by (Some mark) is =
          ap (λ (o : Option ℕ). chained_with o (has_number (chain_of_goal run one) row) (length before))
          (agree.chains row ∙ ap (option_and_then (λ mark. mark.chained)) is)

  abbrev deletes : ℕ → Decided → Bool
  deletes row it = is_delete_first it.decision && is_row it.claim row

  deletions : (row : ℕ) → list_any (deletes row) (one ∷ before)
      ≡ some_passes (λ mark. mark.deleted_first) (option_map (decided_mark row) (slice_get marks row))
  deletions row = by (slice_get marks row) refl
    where
      by : (o : Option Mark) → slice_get marks row ≡ o
          → ((is_delete_first one.decision && is_row one.claim row) || list_any (deletes row) before)
          ≡ some_passes (λ mark. mark.deleted_first) (option_map (decided_mark row) o)
      by None is =
          ap (λ (b : Bool). (is_delete_first one.decision && b) || list_any (deletes row) before) (past (is_row one.claim row) row is (claim_within row))
          ∙ ap (λ (b : Bool). b || list_any (deletes row) before) (and-false (is_delete_first one.decision))
          ∙ agree.deletions row ∙ ap (some_passes (λ mark. mark.deleted_first)) is
      by (Some mark) is =
          ap (λ (b : Bool). b || list_any (deletes row) before) (and_comm (is_delete_first one.decision) (is_row one.claim row))
          ∙ ap (λ (b : Bool). (is_row one.claim row && is_delete_first one.decision) || b)
          (agree.deletions row ∙ ap (some_passes (λ mark. mark.deleted_first)) is)

  pub decided_marks : (later : List Mark) → length later ≡ length marks
      → ((row : ℕ) → slice_get later row ≡ option_map (decided_mark row) (slice_get marks row))
      → AreMarked run (one ∷ before) later
  decided_marks later long each = record {
    count = long ∙ agree.count;
    claimers = λ row. claimers row ∙ ap (option_and_then (λ mark. mark.claimer)) (sym (each row));
    chains = λ row. chains row ∙ ap (option_and_then (λ mark. mark.chained)) (sym (each row));
    deletions = λ row. deletions row ∙ ap (some_passes (λ mark. mark.deleted_first)) (sym (each row));
  }
