-- The marks with the newest decision taken back.
use Rattle.std.proofs.Common.{◌≡◌, ◌<◌, ℕ, Bool, true, false, not, ◌==◌, ◌&&◌, ◌||◌, if◌then◌else◌, List, [], ◌∷◌, length, Option, Some, None, option_map, option_and_then, refl, sym, ap, ◌∙◌, inl, inr, arith}
use Rattle.std.proofs.lemmas.Bool.Decides.{nat_tests}
use Rattle.std.proofs.lemmas.Option.{slice_get_cases}
use Rattle.std.proofs.Math.Bool.{and-false}
use Rattle.std.specs.List.{list_any, slice_get}
use Rattle.std.specs.Option.{IfSome}
use Rattle.pl_lemmas.specs.Words.{has_number, is_row, some_passes}
use Rattle.pl_lemmas.proofs.Numbers.{equal_numbers, same_number}
use Rattle.pl_lemmas.proofs.Options.{neither}
use Rattle.pl_lemmas.proofs.Truth.{neither_right}
use Rattle.pl_decide.specs.Limited.{is_delete_first}
use Rattle.pl_model.specs.declared.decided.Decided.{Decided}
use Rattle.pl_model.specs.declared.fixed.Fixed.{Fixed}
use Rattle.pl_model.specs.Claims.{chain_of_goal, claimer_of, is_claimed}
use Rattle.pl_claims.specs.declared.mark.Mark.{Mark}
use Rattle.pl_claims.specs.Marks.{AreMarked, chained_with, chained_without, first_chained, freed_of, unchained_by}

-- the first goal that has a row in its chain is one of those that are decided
first_below : (run : Fixed) (decided : List Decided) (row first : ℕ) → first_chained run decided row ≡ Some first → first < length decided
first_below run [] row first h = absurd (let e : None ≡ Some first = h in cc)
first_below run (newest ∷ before) row first h =
    by (first_chained run before row) (has_number (chain_of_goal run newest) row) h (first_below run before row first)
  where
    by : (o : Option ℕ) (b : Bool) → chained_with o b (length before) ≡ Some first → (o ≡ Some first → first < length before)
        → first < length (newest ∷ before)
    by (Some earlier) b here rest = let low : first < length before = rest here in omega arith
    by None true here rest =
        let same : Some (length before) ≡ Some first = here in
        let one : length before ≡ first = cc in
        omega arith
    by None false here rest = absurd (let e : None ≡ Some first = here in cc)

none_claims : (decided : List Decided) (row : ℕ) → is_claimed decided row ≡ false → claimer_of decided row ≡ None
none_claims [] row none = refl
none_claims (newest ∷ before) row none = by (is_row newest.claim row) none (none_claims before row)
  where
    by : (b : Bool) → (b || is_claimed before row) ≡ false → (is_claimed before row ≡ false → claimer_of before row ≡ None)
        → (if b then Some (length before) else claimer_of before row) ≡ None
    by true h rest = absurd (let e : true ≡ false = h in cc)
    by false h rest = rest h

none_deletes : (decided : List Decided) (row : ℕ) → is_claimed decided row ≡ false
    → list_any (λ one. is_delete_first one.decision && is_row one.claim row) decided ≡ false
none_deletes [] row none = refl
none_deletes (newest ∷ before) row none = by (is_row newest.claim row) none (none_deletes before row)
  where
    by : (b : Bool) → (b || is_claimed before row) ≡ false
        → (is_claimed before row ≡ false → list_any (λ one. is_delete_first one.decision && is_row one.claim row) before ≡ false)
        → ((is_delete_first newest.decision && b) || list_any (λ one. is_delete_first one.decision && is_row one.claim row) before) ≡ false
    by true h rest = absurd (let e : true ≡ false = h in cc)
    by false h rest =
        ap (λ (b : Bool). b || list_any (λ one. is_delete_first one.decision && is_row one.claim row) before) (and-false (is_delete_first newest.decision))
        ∙ rest h

-- the claim of the newest decision has a mark
pub claim_marked : (run : Fixed) (before : List Decided) (one : Decided) (marks : List Mark) → AreMarked run (one ∷ before) marks
    → IfSome one.claim (λ row. row < length marks)
claim_marked run before one marks agree = by one.claim refl
  where
    by : (o : Option ℕ) → one.claim ≡ o → IfSome o (λ row. row < length marks)
    by None is = tt
    by (Some own) is =
        let claims : claimer_of (one ∷ before) own ≡ Some (length before) =
        ap (λ (b : Bool). if b then Some (length before) else claimer_of before own)
        (ap (λ (o : Option ℕ). is_row o own) is ∙ same_number own) in
        elim ((slice_get_cases marks own).1) [
          | inl there ↦ there.1
          | inr beyond ↦
              absurd (let e : Some (length before) ≡ None =
              sym claims ∙ agree.claimers own ∙ ap (option_and_then (λ mark. mark.claimer)) beyond.1 in cc)
        ]

-- what taking a decision back changes of a row's mark
abbrev pub retracted_mark : Fixed → List Decided → Decided → ℕ → Mark → Mark
retracted_mark run before one row mark = freed_of one.claim row (unchained_by (length before) (chain_of_goal run one) row mark)

module _ (run : Fixed) (before : List Decided) (marks : List Mark) (one : Decided) (agree : AreMarked run (one ∷ before) marks)
    (unclaimed : IfSome one.claim (λ row. is_claimed before row ≡ false)) where
  free : (row : ℕ) → is_row one.claim row ≡ true → is_claimed before row ≡ false
  free row h = by one.claim unclaimed h
    where
      by : (o : Option ℕ) → IfSome o (λ n. is_claimed before n ≡ false) → is_row o row ≡ true → is_claimed before row ≡ false
      by None none h = absurd (let e : false ≡ true = h in cc)
      by (Some own) none h = ap (is_claimed before) (sym (equal_numbers own row h)) ∙ none

  claimers : (row : ℕ) → claimer_of before row ≡ option_and_then (λ mark. mark.claimer) (option_map (retracted_mark run before one row) (slice_get marks row))
  claimers row = by (slice_get marks row) (is_row one.claim row) refl refl
    where
      by : (o : Option Mark) (b : Bool) → slice_get marks row ≡ o → is_row one.claim row ≡ b
          → claimer_of before row ≡ option_and_then (λ mark. mark.claimer) (option_map (retracted_mark run before one row) o)
      by None b is claims =
          let none : (if b then Some (length before) else claimer_of before row) ≡ None =
          ap (λ (t : Bool). if t then Some (length before) else claimer_of before row) (sym claims)
          ∙ agree.claimers row ∙ ap (option_and_then (λ mark. mark.claimer)) is in
          not_taken b none
        where
          not_taken : (t : Bool) → (if t then Some (length before) else claimer_of before row) ≡ None → claimer_of before row ≡ None
          not_taken true h = absurd (let e : Some (length before) ≡ None = h in cc)
          not_taken false h = h
      by (Some mark) true is claims =
          none_claims before row (free row claims)
          ∙ sym (ap (λ (t : Bool). if t then None else mark.claimer) claims)
      by (Some mark) false is claims =
          sym (ap (λ (t : Bool). if t then Some (length before) else claimer_of before row) claims)
          ∙ agree.claimers row ∙ ap (option_and_then (λ mark. mark.claimer)) is
          ∙ sym (ap (λ (t : Bool). if t then None else mark.claimer) claims)

  -- a mark by the newest goal goes, an earlier one stays
  back : (o : Option ℕ) (b : Bool) → ((first : ℕ) → o ≡ Some first → first < length before)
      → o ≡ chained_without (chained_with o b (length before)) b (length before)
  back (Some first) true low =
      let less : first < length before = low first refl in
      let apart : (first == length before) ≡ false = grind (arith, nat_tests) in
      sym (ap (λ (t : Bool). if t then None else Some first) apart)
  back (Some first) false low = refl
  back None true low = sym (ap (λ (t : Bool). if t then None else Some (length before)) (same_number (length before)))
  back None false low = refl

  chains : (row : ℕ) → first_chained run before row ≡ option_and_then (λ mark. mark.chained) (option_map (retracted_mark run before one row) (slice_get marks row))
  chains row = by (slice_get marks row) refl
    where
      by : (o : Option Mark) → slice_get marks row ≡ o
          → first_chained run before row ≡ option_and_then (λ mark. mark.chained) (option_map (retracted_mark run before one row) o)
      by None is =
          (neither (first_chained run before row) (if has_number (chain_of_goal run one) row then Some (length before) else None)
          (agree.chains row ∙ ap (option_and_then (λ mark. mark.chained)) is)).0
      by (Some mark) is =
          back (first_chained run before row) (has_number (chain_of_goal run one) row) (first_below run before row)
          ∙ ap (λ (o : Option ℕ). chained_without o (has_number (chain_of_goal run one) row) (length before))
          (agree.chains row ∙ ap (option_and_then (λ mark. mark.chained)) is)

  abbrev deletes : ℕ → Decided → Bool
  deletes row it = is_delete_first it.decision && is_row it.claim row

  deletions : (row : ℕ) → list_any (deletes row) before
      ≡ some_passes (λ mark. mark.deleted_first) (option_map (retracted_mark run before one row) (slice_get marks row))
  deletions row = by (slice_get marks row) (is_row one.claim row) refl refl
    where
      by : (o : Option Mark) (b : Bool) → slice_get marks row ≡ o → is_row one.claim row ≡ b
          → list_any (deletes row) before ≡ some_passes (λ mark. mark.deleted_first) (option_map (retracted_mark run before one row) o)
      by None b is claims =
          neither_right (deletes row one) (list_any (deletes row) before)
          (agree.deletions row ∙ ap (some_passes (λ mark. mark.deleted_first)) is)
      by (Some mark) true is claims =
          none_deletes before row (free row claims)
          ∙ sym (ap (λ (t : Bool). not t && mark.deleted_first) claims)
      by (Some mark) false is claims =
          sym (ap (λ (t : Bool). (is_delete_first one.decision && t) || list_any (deletes row) before) claims
          ∙ ap (λ (t : Bool). t || list_any (deletes row) before) (and-false (is_delete_first one.decision)))
          ∙ agree.deletions row ∙ ap (some_passes (λ mark. mark.deleted_first)) is
          ∙ sym (ap (λ (t : Bool). not t && mark.deleted_first) claims)

  pub retracted_marks : (later : List Mark) → length later ≡ length marks
      → ((row : ℕ) → slice_get later row ≡ option_map (retracted_mark run before one row) (slice_get marks row))
      → AreMarked run before later
  retracted_marks later long each = record {
    count = long ∙ agree.count;
    claimers = λ row. claimers row ∙ ap (option_and_then (λ mark. mark.claimer)) (sym (each row));
    chains = λ row. chains row ∙ ap (option_and_then (λ mark. mark.chained)) (sym (each row));
    deletions = λ row. deletions row ∙ ap (some_passes (λ mark. mark.deleted_first)) (sym (each row));
  }
