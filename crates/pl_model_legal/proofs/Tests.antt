-- Facts of numbers and lists by tests that compute.
use Rattle.std.proofs.Common.{◌≡◌, ℕ, ◌<◌, Bool, true, ◌&&◌, nat_lt, AllPairs, List, [], ◌∷◌, length, get_or, sym, ◌∙◌, subst, not-suc-le-zero, zero-add}
use Rattle.std.proofs.lemmas.Bool.{and_parts, ltb-true}
use Rattle.std.proofs.lemmas.List.Elements.{All-weaker}
use Rattle.std.proofs.lemmas.List.FromFn.{get_or-range_with_len, length-range_with_len}
use Rattle.std.proofs.lemmas.List.Kept.{AllPairs-cons}
use Rattle.std.proofs.lemmas.List.Sums.{AllPass-from_list_all}
use Rattle.std.specs.List.{list_all, range_with_len}

-- what passes at each number of a range passes at each number below its length
pub passes_below : (test : ℕ → Bool) (count n : ℕ) → list_all test (range_with_len 0 count) ≡ true → n < count → test n ≡ true
passes_below test count n h low =
    let within : n < length (range_with_len 0 count) = subst (λ (k : ℕ). n < k) (sym (length-range_with_len 0 count)) low in
    let at : get_or (range_with_len 0 count) n 0 ≡ n = get_or-range_with_len 0 count n 0 low ∙ zero-add n in
    subst (λ (k : ℕ). test k ≡ true) at (AllPass-from_list_all test (range_with_len 0 count) h n 0 within)

-- whether each number is below those after it
abbrev pub are_rising : List ℕ → Bool
are_rising [] = true
are_rising (n ∷ numbers) = list_all (λ other. nat_lt n other) numbers && are_rising numbers

pub rising : (numbers : List ℕ) → are_rising numbers ≡ true → AllPairs (λ earlier later. earlier < later) numbers
rising [] h = λ i j d earlier within. absurd (not-suc-le-zero within)
rising (n ∷ numbers) h =
    let parts = and_parts (list_all (λ other. nat_lt n other) numbers) (are_rising numbers) h in
    AllPairs-cons (λ earlier later. earlier < later) n numbers
    (All-weaker (λ other. nat_lt n other ≡ true) (λ other. n < other) (λ other low. ltb-true n other low) numbers
    (AllPass-from_list_all (λ other. nat_lt n other) numbers parts.0))
    (rising numbers parts.1)
