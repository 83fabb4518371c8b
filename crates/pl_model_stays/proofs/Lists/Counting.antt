-- Counts that fall or grow with what passes: of lists, of ranges, and sums.
use Rattle.std.proofs.Common.{◌≡◌, ℕ, zero, suc, ◌+◌, ◌<◌, ◌≤◌, Bool, true, false, not, ◌&&◌, ◌||◌, ◌==◌, cond, List, [], ◌∷◌, filter, length, refl, subst, arith}
use Rattle.std.proofs.lemmas.Bool.Decides.{nat_tests}
use Rattle.std.proofs.lemmas.List.Sums.{sum_by-cons}
use Rattle.std.specs.List.{list_any, range_with_len, sum_by}
use Rattle.pl_lemmas.proofs.Numbers.{equal_numbers}
use Rattle.pl_model_stays.proofs.Operations.Once.{never_both}

-- what fewer pass keeps no more
pub no_more : {X : Type 0} (p q : X → Bool) → ((x : X) → q x ≡ true → p x ≡ true) → (xs : List X)
    → length (filter q xs) ≤ length (filter p xs)
no_more p q weaker [] = omega arith
no_more {X = X} p q weaker (x ∷ xs) = by (q x) refl (p x) refl (no_more p q weaker xs)
  where
    by : (b : Bool) → q x ≡ b → (c : Bool) → p x ≡ c → length (filter q xs) ≤ length (filter p xs)
        → length (cond b (x ∷ filter q xs) (filter q xs)) ≤ length (cond c (x ∷ filter p xs) (filter p xs))
    by true is true other rest = omega arith
    by true is false other rest = absurd (never_both (p x) (weaker x is) other)
    by false is true other rest = omega arith
    by false is false other rest = rest

-- and fewer where one does not pass that did
pub fewer : {X : Type 0} (p q : X → Bool) → ((x : X) → q x ≡ true → p x ≡ true) → (xs : List X)
    → list_any (λ x. p x && not (q x)) xs ≡ true → length (filter q xs) < length (filter p xs)
fewer p q weaker [] h = absurd (let e : false ≡ true = h in cc)
fewer {X = X} p q weaker (x ∷ xs) h = by (q x) refl (p x) refl (no_more p q weaker xs) (fewer p q weaker xs) h
  where
    by : (b : Bool) → q x ≡ b → (c : Bool) → p x ≡ c → length (filter q xs) ≤ length (filter p xs)
        → (list_any (λ y. p y && not (q y)) xs ≡ true → length (filter q xs) < length (filter p xs))
        → ((c && not b) || list_any (λ y. p y && not (q y)) xs) ≡ true
        → length (cond b (x ∷ filter q xs) (filter q xs)) < length (cond c (x ∷ filter p xs) (filter p xs))
    by true is true other few rest h = let less = rest h in omega arith
    by true is false other few rest h = absurd (never_both (p x) (weaker x is) other)
    by false is true other few rest h = omega arith
    by false is false other few rest h = rest h

-- a sum of terms that are no more is no more
pub sum_no_more : {X : Type 0} (f g : X → ℕ) → ((x : X) → g x ≤ f x) → (xs : List X) → sum_by g xs ≤ sum_by f xs
sum_no_more f g less [] = omega arith
sum_no_more f g less (x ∷ xs) =
    let rest = sum_no_more f g less xs in
    let one = less x in
    let first = sum_by-cons f x xs in
    let second = sum_by-cons g x xs in
    omega arith

-- and less where one of its terms is
pub sum_fewer : {X : Type 0} (f g : X → ℕ) (test : X → Bool) → ((x : X) → g x ≤ f x) → ((x : X) → test x ≡ true → g x < f x)
    → (xs : List X) → list_any test xs ≡ true → sum_by g xs < sum_by f xs
sum_fewer f g test less below [] h = absurd (let e : false ≡ true = h in cc)
sum_fewer f g test less below (x ∷ xs) h = by (test x) refl h (sum_fewer f g test less below xs)
  where
    by : (b : Bool) → test x ≡ b → (b || list_any test xs) ≡ true → (list_any test xs ≡ true → sum_by g xs < sum_by f xs)
        → sum_by g (x ∷ xs) < sum_by f (x ∷ xs)
    by true is h rest =
        let others = sum_no_more f g less xs in
        let one = below x is in
        let first = sum_by-cons f x xs in
        let second = sum_by-cons g x xs in
        omega arith
    by false is h rest =
        let others = rest h in
        let one = less x in
        let first = sum_by-cons f x xs in
        let second = sum_by-cons g x xs in
        omega arith

-- a longer range of which more pass keeps no less
pub range_no_less : (p q : ℕ → Bool) → ((k : ℕ) → p k ≡ true → q k ≡ true) → (a n m : ℕ) → n ≤ m
    → length (filter p (range_with_len a n)) ≤ length (filter q (range_with_len a m))
range_no_less p q stronger a zero m low = omega arith
range_no_less p q stronger a (suc n) zero low = absurd (omega arith)
range_no_less p q stronger a (suc n) (suc m) low =
    by (p a) refl (q a) refl (range_no_less p q stronger (a + 1) n m (omega arith))
  where
    by : (b : Bool) → p a ≡ b → (c : Bool) → q a ≡ c
        → length (filter p (range_with_len (a + 1) n)) ≤ length (filter q (range_with_len (a + 1) m))
        → length (cond b (a ∷ filter p (range_with_len (a + 1) n)) (filter p (range_with_len (a + 1) n)))
        ≤ length (cond c (a ∷ filter q (range_with_len (a + 1) m)) (filter q (range_with_len (a + 1) m)))
    by true is true other rest = omega arith
    by true is false other rest = absurd (never_both (q a) (stronger a is) other)
    by false is true other rest = omega arith
    by false is false other rest = rest

some_kept : (q : ℕ → Bool) (a m k : ℕ) → a ≤ k → k < a + m → q k ≡ true → 0 < length (filter q (range_with_len a m))
some_kept q a zero k low high is = absurd (omega arith)
some_kept q a (suc m) k low high is = by (q a) refl (a == k) refl (λ later. some_kept q (a + 1) m k later (omega arith) is)
  where
    apart : (a k : ℕ) → a ≤ k → (a == k) ≡ false → a + 1 ≤ k
    apart a k low off = grind (arith, nat_tests)

    by : (b : Bool) → q a ≡ b → (same : Bool) → (a == k) ≡ same
        → (a + 1 ≤ k → 0 < length (filter q (range_with_len (a + 1) m)))
        → 0 < length (cond b (a ∷ filter q (range_with_len (a + 1) m)) (filter q (range_with_len (a + 1) m)))
    by true here same at rest = omega arith
    by false here true at rest = absurd (never_both (q k) is (subst (λ (n : ℕ). q n ≡ false) (equal_numbers a k at) here))
    by false here false at rest = rest (apart a k low at)

-- and more where one passes that stands past the shorter one
pub range_more : (p q : ℕ → Bool) → ((k : ℕ) → p k ≡ true → q k ≡ true) → (a n m k : ℕ) → n ≤ m → a + n ≤ k → k < a + m → q k ≡ true
    → length (filter p (range_with_len a n)) < length (filter q (range_with_len a m))
range_more p q stronger a zero m k low past high is =
    let some = some_kept q a m k (omega arith) high is in omega arith
range_more p q stronger a (suc n) zero k low past high is = absurd (omega arith)
range_more p q stronger a (suc n) (suc m) k low past high is =
    by (p a) refl (q a) refl (range_more p q stronger (a + 1) n m k (omega arith) (omega arith) (omega arith) is)
  where
    by : (b : Bool) → p a ≡ b → (c : Bool) → q a ≡ c
        → length (filter p (range_with_len (a + 1) n)) < length (filter q (range_with_len (a + 1) m))
        → length (cond b (a ∷ filter p (range_with_len (a + 1) n)) (filter p (range_with_len (a + 1) n)))
        < length (cond c (a ∷ filter q (range_with_len (a + 1) m)) (filter q (range_with_len (a + 1) m)))
    by true here true other rest = omega arith
    by true here false other rest = absurd (never_both (q a) (stronger a here) other)
    by false here true other rest = omega arith
    by false here false other rest = rest
