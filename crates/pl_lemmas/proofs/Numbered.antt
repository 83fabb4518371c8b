-- Lists that stand newest first: each element's number is its place from the other end.
use Rattle.std.proofs.Common.{◌≡◌, ◌<◌, ◌+◌, ℕ, zero, suc, Bool, true, false, ◌==◌, cond, if◌then◌else◌, List, [], ◌∷◌, ◌++◌, length, reverse, Option, Some, None, option_map, refl, sym, ap, ◌∙◌, arith}
use Rattle.std.proofs.lemmas.Bool.Decides.{nat_tests}
use Rattle.std.proofs.lemmas.Iterator.Adapters.{position_from-zero}
use Rattle.std.proofs.lemmas.List.{length-reverse, reverse-append, reverse-reverse}
use Rattle.std.specs.List.{enumerate_from, find, position, position_from, slice_get}
use Rattle.pl_lemmas.specs.Words.{numbered}
use Rattle.pl_lemmas.proofs.Numbers.{equal_numbers}

zero_suc : (k : ℕ) → (0 == suc k) ≡ false
zero_suc k = grind (arith, nat_tests)

suc_zero : (k : ℕ) → (suc k == 0) ≡ false
suc_zero k = grind (arith, nat_tests)

-- what stands at a place of a list with one element more
pub get_push : {X : Type 0} (xs : List X) (y : X) (k : ℕ) → slice_get (xs ++ y ∷ []) k ≡ (if length xs == k then Some y else slice_get xs k)
get_push [] y zero = refl
get_push {X = X} [] y (suc k) = ap (λ (b : Bool). if b then Some y else None) (sym (zero_suc k))
get_push {X = X} (x ∷ xs) y zero = ap (λ (b : Bool). if b then Some y else Some x) (sym (suc_zero (length xs)))
get_push {X = X} (x ∷ xs) y (suc k) =
    let same : (suc (length xs) == suc k) ≡ (length xs == k) = grind (arith, nat_tests) in
    get_push xs y k ∙ ap (λ (b : Bool). if b then Some y else slice_get xs k) (sym same)

-- what stands at a place from the other end has the place as its number
pub numbered_turned : {X : Type 0} (xs : List X) (n : ℕ) → slice_get (reverse xs) n ≡ numbered xs n
numbered_turned [] n = refl
numbered_turned {X = X} (newest ∷ earlier) n =
    ap (λ (ys : List X). slice_get ys n) (reverse-append (newest ∷ []) earlier)
    ∙ get_push (reverse earlier) newest n
    ∙ ap (λ (m : ℕ). if m == n then Some newest else slice_get (reverse earlier) n) (length-reverse earlier)
    ∙ ap (λ (o : Option X). if length earlier == n then Some newest else o) (numbered_turned earlier n)

-- and in a list that stands oldest first the place is the number the other way round
pub numbered_reverse : {X : Type 0} (xs : List X) (n : ℕ) → numbered (reverse xs) n ≡ slice_get xs n
numbered_reverse {X = X} xs n =
    sym (numbered_turned (reverse xs) n) ∙ ap (λ (ys : List X). slice_get ys n) (reverse-reverse xs)

-- the number of an element is below the length
pub numbered_below : {X : Type 0} (xs : List X) (n : ℕ) (x : X) → numbered xs n ≡ Some x → n < length xs
numbered_below [] n x h = absurd (let e : None ≡ Some x = h in cc)
numbered_below (y ∷ ys) n x h = by (length ys == n) refl (numbered_below ys n x) h
  where
    by : (b : Bool) → (length ys == n) ≡ b → (numbered ys n ≡ Some x → n < length ys)
        → (if b then Some y else numbered ys n) ≡ Some x → n < length (y ∷ ys)
    by true is rest h = let e : length ys ≡ n = equal_numbers (length ys) n is in omega arith
    by false is rest h = let less : n < length ys = rest h in omega arith

-- ---- the first that passes a test

module _ {X : Type 0} (test : X → Bool) where
  place_from : (from : ℕ) (xs : List X) → option_map (λ found. found.0) (find (λ one. test one.1) (enumerate_from from xs)) ≡ position_from test from xs
  place_from from [] = refl
  place_from from (x ∷ xs) = by (test x) (place_from (from + 1) xs)
    where
      by : (b : Bool) → option_map (λ found. found.0) (find (λ one. test one.1) (enumerate_from (from + 1) xs)) ≡ position_from test (from + 1) xs
          → option_map (λ found. found.0) (cond b (Some (from, x)) (find (λ one. test one.1) (enumerate_from (from + 1) xs)))
          ≡ cond b (Some from) (position_from test (from + 1) xs)
      by true rest = refl
      by false rest = rest

  -- its number among the numbered ones is its place
  pub place_found : (xs : List X) → option_map (λ found. found.0) (find (λ one. test one.1) (enumerate_from 0 xs)) ≡ position test xs
  place_found xs = place_from 0 xs ∙ sym (position_from-zero test xs)
