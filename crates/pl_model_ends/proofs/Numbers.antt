-- Lists of numbers, and what a filter leaves.
use Rattle.std.proofs.Common.{◌≡◌, ℕ, zero, suc, ◌+◌, ◌<◌, ◌≤◌, ◌==◌, Bool, true, false, not, ◌||◌, cond, ◌⊎◌, inl, inr, List, [], ◌∷◌, filter, length, refl, sym, ap, subst, arith, eq-or-lt_of_le}
use Rattle.std.proofs.lemmas.Bool.Decides.{nat_tests}
use Rattle.std.specs.List.{list_any, range_with_len}
use Rattle.pl_lemmas.proofs.Numbers.{same_number, equal_numbers}
use Rattle.pl_lemmas.proofs.Each.{Each, IsAmong, each_weaker}
use Rattle.pl_lemmas.specs.Words.{has_number}
use Rattle.pl_model_stays.proofs.Lists.Pairs.{each_names}

-- a filter leaves nothing where each does not pass
pub none_kept : {X : Type 0} (p : X → Bool) (xs : List X) → Each (λ x. p x ≡ false) xs → filter p xs ≡ []
none_kept p [] none = refl
none_kept p (x ∷ xs) none = rw none.0 (none_kept p xs none.1)

-- each number of a list is one of it
pub each_number : (xs : List ℕ) → Each (λ n. has_number xs n ≡ true) xs
each_number xs =
    each_weaker (λ x. (y : ℕ) → (x == y) ≡ true → list_any (λ z. z == y) xs ≡ true) (λ n. has_number xs n ≡ true)
    (λ x names. names x (same_number x)) xs (each_names (λ (x y : ℕ). x == y) xs)

-- a number within a range is among its numbers
pub in_range : (a n k : ℕ) → a ≤ k → k < a + n → IsAmong k (range_with_len a n)
in_range a zero k low high = absurd (omega arith)
in_range a (suc n) k low high = by (eq-or-lt_of_le low) (λ later. in_range (a + 1) n k (omega arith) (omega arith))
  where
    by : (a ≡ k) ⊎ (a < k) → (a < k → IsAmong k (range_with_len (a + 1) n)) → (k ≡ a) ⊎ IsAmong k (range_with_len (a + 1) n)
    by (inl same) rest = inl (sym same)
    by (inr later) rest = inr (rest later)

-- ---- numbers that stand once

abbrev times : ℕ → List ℕ → ℕ
times n xs = length (filter (λ other. other == n) xs)

abbrev others : ℕ → List ℕ → List ℕ
others n xs = filter (λ other. not (other == n)) xs

-- what stands there stands at least once
at_least_once : (n : ℕ) (xs : List ℕ) → has_number xs n ≡ true → 0 < times n xs
at_least_once n [] h = absurd (let e : false ≡ true = h in cc)
at_least_once n (x ∷ xs) h = by (x == n) refl h (at_least_once n xs)
  where
    by : (b : Bool) → (x == n) ≡ b → (b || has_number xs n) ≡ true → (has_number xs n ≡ true → 0 < times n xs)
        → 0 < length (cond b (x ∷ filter (λ other. other == n) xs) (filter (λ other. other == n) xs))
    by true is h rest = omega arith
    by false is h rest = rest h

-- a number and the others are all
split : (n : ℕ) (xs : List ℕ) → length xs ≡ times n xs + length (others n xs)
split n [] = omega arith
split n (x ∷ xs) = by (x == n) (split n xs)
  where
    by : (b : Bool) → length xs ≡ times n xs + length (others n xs)
        → length (x ∷ xs) ≡ length (cond b (x ∷ filter (λ other. other == n) xs) (filter (λ other. other == n) xs))
        + length (cond (not b) (x ∷ others n xs) (others n xs))
    by true rest = omega arith
    by false rest = omega arith

-- another number stands among the others as often
others_times : (n k : ℕ) (xs : List ℕ) → k < n → times k (others n xs) ≡ times k xs
others_times n k [] low = refl
others_times n k (x ∷ xs) low = by (x == n) refl (x == k) refl (others_times n k xs low)
  where
    apart : (x == n) ≡ true → (x == k) ≡ true → ⊥
    apart one other =
        let first : x ≡ n = equal_numbers x n one in
        let second : x ≡ k = equal_numbers x k other in
        omega arith

    by : (b : Bool) → (x == n) ≡ b → (c : Bool) → (x == k) ≡ c → times k (others n xs) ≡ times k xs
        → times k (cond (not b) (x ∷ others n xs) (others n xs))
        ≡ length (cond c (x ∷ filter (λ other. other == k) xs) (filter (λ other. other == k) xs))
    by true one true other rest = absurd (apart one other)
    by true one false other rest = rest
    by false one true other rest = rw other (omega arith)
    by false one false other rest = rw other rest

-- a number that stands among the others is another one of the list
others_has : (n k : ℕ) (xs : List ℕ) → has_number (others n xs) k ≡ true → ((k == n) ≡ false) × (has_number xs k ≡ true)
others_has n k [] h = absurd (let e : false ≡ true = h in cc)
others_has n k (x ∷ xs) h = by (x == n) refl (x == k) refl h (others_has n k xs)
  where
    apart : (x == n) ≡ false → (x == k) ≡ true → (k == n) ≡ false
    apart one other = subst (λ (j : ℕ). (j == n) ≡ false) (equal_numbers x k other) one

    by : (b : Bool) → (x == n) ≡ b → (c : Bool) → (x == k) ≡ c → has_number (cond (not b) (x ∷ others n xs) (others n xs)) k ≡ true
        → (has_number (others n xs) k ≡ true → ((k == n) ≡ false) × (has_number xs k ≡ true))
        → ((k == n) ≡ false) × ((c || has_number xs k) ≡ true)
    by true one true other h rest = ((rest h).0, refl)
    by true one false other h rest = rest h
    by false one true other h rest = (apart one other, refl)
    by false one false other h rest = rest (subst (λ (c : Bool). (c || has_number (others n xs) k) ≡ true) other h)

-- where each number below a count stands once and no other one does, there are as many
pub all_once : (n : ℕ) (xs : List ℕ) → ((k : ℕ) → has_number xs k ≡ true → k < n)
    → ((k : ℕ) → k < n → has_number xs k ≡ true) → ((k : ℕ) → times k xs ≤ 1) → length xs ≡ n
all_once zero [] within there once = refl
all_once zero (x ∷ xs) within there once =
    absurd (let low : x < 0 = within x (ap (λ (b : Bool). b || has_number xs x) (same_number x)) in omega arith)
all_once (suc n) xs within there once =
    let one : 0 < times n xs = at_least_once n xs (there n (omega arith)) in
    let most : times n xs ≤ 1 = once n in
    let whole = split n xs in
    let rest : length (others n xs) ≡ n = all_once n (others n xs) below stands less in
    omega arith
  where
    below : (k : ℕ) → has_number (others n xs) k ≡ true → k < n
    below k h =
        let both = others_has n k xs h in
        let low : k < suc n = within k both.1 in
        let other = both.0 in
        grind (arith, nat_tests)

    positive : (k : ℕ) (ys : List ℕ) → 0 < times k ys → has_number ys k ≡ true
    positive k [] h = absurd (omega arith)
    positive k (y ∷ ys) h = by (y == k) h (positive k ys)
      where
        by : (b : Bool) → 0 < length (cond b (y ∷ filter (λ other. other == k) ys) (filter (λ other. other == k) ys))
            → (0 < times k ys → has_number ys k ≡ true) → (b || has_number ys k) ≡ true
        by true h rest = refl
        by false h rest = rest h

    stands : (k : ℕ) → k < n → has_number (others n xs) k ≡ true
    stands k low =
        let some : 0 < times k xs = at_least_once k xs (there k (omega arith)) in
        let same = others_times n k xs low in
        positive k (others n xs) (omega arith)

    less : (k : ℕ) → times k (others n xs) ≤ 1
    less k = by (times k (others n xs)) (others_no_more k xs)
      where
        others_no_more : (k : ℕ) (ys : List ℕ) → times k (others n ys) ≤ times k ys
        others_no_more k [] = omega arith
        others_no_more k (y ∷ ys) = step (y == n) (y == k) refl (others_no_more k ys)
          where
            step : (b c : Bool) → (y == k) ≡ c → times k (others n ys) ≤ times k ys
                → times k (cond (not b) (y ∷ others n ys) (others n ys))
                ≤ length (cond c (y ∷ filter (λ other. other == k) ys) (filter (λ other. other == k) ys))
            step true true is rest = omega arith
            step true false is rest = rest
            step false true is rest = rw is (omega arith)
            step false false is rest = rw is rest

        by : (count : ℕ) → count ≤ times k xs → count ≤ 1
        by count low = let most : times k xs ≤ 1 = once k in omega arith
