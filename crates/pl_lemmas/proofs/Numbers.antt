-- Numbers, their tests, and lists of numbers: which are among them, and ranges.
use Rattle.std.proofs.Common.{◌≡◌, ◌≢◌, ℕ, zero, suc, ◌+◌, ◌<◌, ◌≤◌, ◌==◌, nat_lt, Bool, true, false, ◌||◌, ◌&&◌, cond, if◌then◌else◌, ◌⊎◌, inl, inr, List, [], ◌∷◌, ◌++◌, length, find, Contains, Option, Some, None, refl, sym, ◌∙◌, ap, subst, arith, add-zero, eq-or-lt_of_le, zero-lt-suc}
use Rattle.std.proofs.Math.Bool.{or-true}
use Rattle.std.proofs.lemmas.Bool.Decides.{nat_tests}
use Rattle.std.specs.List.{cons_option, list_all, list_any, range_with_len}
use Rattle.pl_lemmas.specs.Words.{has_number, numbered}
use Rattle.pl_lemmas.proofs.Truth.{and_left, and_right}

-- ---- tests

pub same_number : (n : ℕ) → (n == n) ≡ true
same_number n = grind (arith, nat_tests)

pub equal_numbers : (a b : ℕ) → (a == b) ≡ true → a ≡ b
equal_numbers a b h = grind (arith, nat_tests)

pub turned_number : (a b : ℕ) → (a == b) ≡ (b == a)
turned_number a b = grind (arith, nat_tests)

pub less_true : (a b : ℕ) → a < b → nat_lt a b ≡ true
less_true a b h = grind (arith, nat_tests)

-- a place below a count, as a range has it
pub below_length : (row count : ℕ) → nat_lt row count ≡ true → row < 0 + count
below_length row count h = grind (arith, nat_tests)

-- ---- which are among a list

pub contains_number : (xs : List ℕ) (k : ℕ) → has_number xs k ≡ true → Contains xs k
contains_number [] k h = absurd (let e : false ≡ true = h in cc)
contains_number (x ∷ xs) k h = by (x == k) refl (contains_number xs k) h
  where
    by : (b : Bool) → (x == k) ≡ b → (has_number xs k ≡ true → Contains xs k) → (b || has_number xs k) ≡ true → Contains (x ∷ xs) k
    by true is rest h = (0, zero-lt-suc (length xs), grind (arith, nat_tests))
    by false is rest h = let found : Contains xs k = rest h in (suc found.0, omega arith, found.2)

pub number_more : (o : Option ℕ) (numbers : List ℕ) (n : ℕ) → has_number numbers n ≡ true → has_number (cons_option o numbers) n ≡ true
number_more None numbers n h = h
number_more (Some other) numbers n h = ap (λ (b : Bool). (other == n) || b) h ∙ or-true (other == n)

-- ---- ranges

pub range_more : (a n : ℕ) → range_with_len a (suc n) ≡ range_with_len a n ++ (a + n) ∷ []
range_more a zero = ap (λ (k : ℕ). k ∷ []) (omega arith)
range_more a (suc n) =
    ap (λ (numbers : List ℕ). a ∷ numbers)
    (range_more (a + 1) n ∙ ap (λ (k : ℕ). range_with_len (a + 1) n ++ k ∷ []) (omega arith))

-- a number within a range is found there
pub range_has : (test : ℕ → Bool) (a n k : ℕ) → a ≤ k → k < a + n → test k ≡ true → list_any test (range_with_len a n) ≡ true
range_has test a zero k low high h = absurd (omega arith)
range_has test a (suc n) k low high h =
    by (eq-or-lt_of_le low) (λ later. range_has test (a + 1) n k (omega arith) (omega arith) h)
  where
    by : (a ≡ k) ⊎ (a < k) → (a < k → list_any test (range_with_len (a + 1) n) ≡ true)
        → (test a || list_any test (range_with_len (a + 1) n)) ≡ true
    by (inl is) rest = ap (λ (b : Bool). b || list_any test (range_with_len (a + 1) n)) (ap (λ (j : ℕ). test j) is ∙ h)
    by (inr later) rest = ap (λ (b : Bool). test a || b) (rest later) ∙ or-true (test a)

-- a number of a range passes what all of them pass
pub range_passes : (test : ℕ → Bool) (a n k : ℕ) → a ≤ k → k < a + n → list_all test (range_with_len a n) ≡ true → test k ≡ true
range_passes test a zero k low high h = absurd (omega arith)
range_passes test a (suc n) k low high h =
    by (eq-or-lt_of_le low) (and_left (test a) _ h)
    (λ later. range_passes test (a + 1) n k (omega arith) (omega arith) (and_right (test a) _ h))
  where
    by : (a ≡ k) ⊎ (a < k) → test a ≡ true → (a < k → test k ≡ true) → test k ≡ true
    by (inl same) here rest = subst (λ (j : ℕ). test j ≡ true) same here
    by (inr later) here rest = rest later

-- where no number passes, none is found
pub range_find_none : (test : ℕ → Bool) (from len : ℕ) → ((k : ℕ) → k < len → test (from + k) ≡ false) → find test (range_with_len from len) ≡ None
range_find_none test from zero fails = refl
range_find_none test from (suc len) fails =
    let first : test from ≡ false = rw add-zero at (fails 0 (omega arith)) in
    let rest : find test (range_with_len (from + 1) len) ≡ None = range_find_none test (from + 1) len
    (λ k below. let e : from + 1 + k ≡ from + (k + 1) = omega arith in rw e (fails (k + 1) (omega arith))) in
    rw first rest

-- where a number passes and none below it does, that one is found
pub range_find_some : (test : ℕ → Bool) (from len place : ℕ) → place < len → ((k : ℕ) → k < place → test (from + k) ≡ false) → test (from + place) ≡ true
    → find test (range_with_len from len) ≡ Some (from + place)
range_find_some test from zero place within fails passes = absurd (omega arith)
range_find_some test from (suc len) zero within fails passes =
    let first : test from ≡ true = rw add-zero at passes in
    rw first (ap Some (sym (add-zero from)))
range_find_some test from (suc len) (suc place) within fails passes =
    let first : test from ≡ false = rw add-zero at (fails 0 (omega arith)) in
    let e : from + 1 + place ≡ from + suc place = omega arith in
    let rest : find test (range_with_len (from + 1) len) ≡ Some (from + 1 + place) = range_find_some test (from + 1) len place (omega arith)
    (λ k below. let e : from + 1 + k ≡ from + (k + 1) = omega arith in rw e (fails (k + 1) (omega arith)))
    (rw e passes) in
    rw first (rest ∙ ap Some e)

-- ---- numbers that a test leaves

pub found_next : (among free : Bool) (start : ℕ) (test : ℕ → Bool) (later : List ℕ) (last : Option ℕ) → test start ≡ free → find test later ≡ last
    → find test (cond among (start ∷ later) later) ≡ cond (among && free) (Some start) last
found_next true true start test later last e f = ap (λ (b : Bool). cond b (Some start) (find test later)) e
found_next true false start test later last e f = ap (λ (b : Bool). cond b (Some start) (find test later)) e ∙ f
found_next false true start test later last e f = f
found_next false false start test later last e f = f

pub counted_next : (among : Bool) (start : ℕ) (later : List ℕ) (count : ℕ) → length later ≡ count → length (cond among (start ∷ later) later) ≡ cond among 1 0 + count
counted_next true start later count e = omega arith
counted_next false start later count e = omega arith

-- ---- the numbers of those before

-- each number below the count is that of one
pub numbered_there : {X : Type 0} (xs : List X) (n : ℕ) → n < length xs → (x : X) × (numbered xs n ≡ Some x)
numbered_there [] n below = absurd (omega arith)
numbered_there {X = X} (newest ∷ earlier) n below = by (length earlier == n) refl (numbered_there earlier n)
  where
    by : (b : Bool) → (length earlier == n) ≡ b → (n < length earlier → (x : X) × (numbered earlier n ≡ Some x))
        → (x : X) × ((if b then Some newest else numbered earlier n) ≡ Some x)
    by true is rest = (newest, refl)
    by false is rest = rest (let low : n < length (newest ∷ earlier) = below in grind (arith, nat_tests))
