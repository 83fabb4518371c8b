-- The first number that passes one of several tests, and tests over what is left by another one.
use Rattle.std.proofs.Common.{◌≡◌, ◌∙◌, ◌<◌, ◌≤◌, ◌+◌, ℕ, zero, suc, nat_lt, Bool, true, false, ◌&&◌, ◌||◌, cond, if◌then◌else◌, List, [], ◌∷◌, find, filter, Option, Some, None, refl, sym, ap, arith}
use Rattle.std.proofs.Math.Bool.{or-false}
use Rattle.std.proofs.lemmas.Bool.Decides.{nat_tests}
use Rattle.std.proofs.lemmas.List.Folds.{list_any-append}
use Rattle.std.proofs.lemmas.Option.{same_Some}
use Rattle.std.specs.List.{list_any, range_with_len}
use Rattle.pl_lemmas.specs.Words.{some_passes}
use Rattle.pl_lemmas.proofs.Numbers.{range_more}
use Rattle.pl_problems.specs.Least.{least}

-- ---- one test or the other

not_below : (one other : ℕ) → one ≤ other → nat_lt other one ≡ false
not_below one other low = grind (arith, nat_tests)

is_below : (one other : ℕ) → one < other → nat_lt one other ≡ true
is_below one other low = grind (arith, nat_tests)

least_first : (one : ℕ) (other : Option ℕ) → ((k : ℕ) → other ≡ Some k → one ≤ k) → least (Some one) other ≡ Some one
least_first one None later = refl
least_first one (Some k) later =
    ap (λ (b : Bool). if b then Some k else Some one) (not_below one k (later k refl))

least_second : (one : ℕ) (other : Option ℕ) → ((k : ℕ) → other ≡ Some k → one < k) → least other (Some one) ≡ Some one
least_second one None later = refl
least_second one (Some k) later =
    ap (λ (b : Bool). if b then Some one else Some k) (is_below one k (later k refl))

-- what is found in a range is no less than its start
found_low : (test : ℕ → Bool) (from len k : ℕ) → find test (range_with_len from len) ≡ Some k → from ≤ k
found_low test from zero k is = absurd (let e : None ≡ Some k = is in cc)
found_low test from (suc len) k is = by (test from) is (found_low test (from + 1) len k)
  where
    by : (b : Bool) → cond b (Some from) (find test (range_with_len (from + 1) len)) ≡ Some k
        → (find test (range_with_len (from + 1) len) ≡ Some k → from + 1 ≤ k) → from ≤ k
    by true here rest = let same : from ≡ k = same_Some from k here in omega arith
    by false later rest = let low : from + 1 ≤ k = rest later in omega arith

find_either : (p q : ℕ → Bool) (from len : ℕ)
    → find (λ k. p k || q k) (range_with_len from len) ≡ least (find p (range_with_len from len)) (find q (range_with_len from len))
find_either p q from zero = refl
find_either p q from (suc len) = by (p from) (q from) (find_either p q (from + 1) len)
  where
    left : Option ℕ
    left = find p (range_with_len (from + 1) len)

    right : Option ℕ
    right = find q (range_with_len (from + 1) len)

    both : Option ℕ
    both = find (λ k. p k || q k) (range_with_len (from + 1) len)

    left_later : (k : ℕ) → left ≡ Some k → from < k
    left_later k is = let low : from + 1 ≤ k = found_low p (from + 1) len k is in omega arith

    right_later : (k : ℕ) → right ≡ Some k → from ≤ k
    right_later k is = let low : from + 1 ≤ k = found_low q (from + 1) len k is in omega arith

    same : (k : ℕ) → Some from ≡ Some k → from ≤ k
    same k is = let e : from ≡ k = same_Some from k is in omega arith

    by : (b c : Bool) → both ≡ least left right → cond (b || c) (Some from) both ≡ least (cond b (Some from) left) (cond c (Some from) right)
    by true true rest = sym (least_first from (Some from) same)
    by true false rest = sym (least_first from right right_later)
    by false true rest = sym (least_second from left left_later)
    by false false rest = rest

-- ---- tests that say the same, or nothing

pub find_same : {X : Type 0} (p q : X → Bool) → ((x : X) → p x ≡ q x) → (xs : List X) → find p xs ≡ find q xs
find_same p q same [] = refl
find_same {X = X} p q same (x ∷ xs) = λ i. cond (same x i) (Some x) (find_same p q same xs i)

pub find_none : {X : Type 0} (test : X → Bool) → ((x : X) → test x ≡ false) → (xs : List X) → find test xs ≡ None
find_none test fails [] = refl
find_none {X = X} test fails (x ∷ xs) = λ i. cond (fails x i) (Some x) (find_none test fails xs i)

pub find_filtered : {X : Type 0} (first second : X → Bool) (xs : List X)
    → find second (filter first xs) ≡ find (λ x. first x && second x) xs
find_filtered first second [] = refl
find_filtered {X = X} first second (x ∷ xs) = by (first x) (find_filtered first second xs)
  where
    by : (b : Bool) → find second (filter first xs) ≡ find (λ y. first y && second y) xs
        → find second (if b then x ∷ filter first xs else filter first xs) ≡ cond (b && second x) (Some x) (find (λ y. first y && second y) xs)
    by true rest = ap (λ (o : Option X). cond (second x) (Some x) o) rest
    by false rest = rest

-- ---- a test of each of two numbers

-- the least number that passes for one of the first ones, with one more of them
pub least_more : (holds : ℕ → ℕ → Bool) (row next count : ℕ) → next ≡ suc row
    → least (find (λ later. list_any (λ earlier. holds earlier later) (range_with_len 0 row)) (range_with_len 0 count))
    (find (holds row) (range_with_len 0 count))
    ≡ find (λ later. list_any (λ earlier. holds earlier later) (range_with_len 0 next)) (range_with_len 0 count)
least_more holds row next count is =
    sym (find_either (λ later. list_any (λ earlier. holds earlier later) (range_with_len 0 row)) (holds row) 0 count)
    ∙ find_same (λ later. list_any (λ earlier. holds earlier later) (range_with_len 0 row) || holds row later)
    (λ later. list_any (λ earlier. holds earlier later) (range_with_len 0 next)) one (range_with_len 0 count)
  where
    place : 0 + row ≡ row
    place = omega arith

    one : (later : ℕ) → (list_any (λ earlier. holds earlier later) (range_with_len 0 row) || holds row later)
        ≡ list_any (λ earlier. holds earlier later) (range_with_len 0 next)
    one later =
        ap (λ (b : Bool). list_any (λ earlier. holds earlier later) (range_with_len 0 row) || b)
        (sym (or-false (holds row later)) ∙ ap (λ (n : ℕ). holds n later || false) (sym place))
        ∙ sym (list_any-append (λ earlier. holds earlier later) (range_with_len 0 row) ((0 + row) ∷ []))
        ∙ ap (λ (numbers : List ℕ). list_any (λ earlier. holds earlier later) numbers) (sym (range_more 0 row))
        ∙ ap (λ (n : ℕ). list_any (λ earlier. holds earlier later) (range_with_len 0 n)) (sym is)

-- for none of no numbers any passes
pub least_none : (count : ℕ) → None ≡ find (λ later. false) (range_with_len 0 count)
least_none count = sym (find_none (λ later. false) (λ later. refl) (range_with_len 0 count))

any_both : {X : Type 0} (b : Bool) (test : X → Bool) (xs : List X) → list_any (λ x. b && test x) xs ≡ (b && list_any test xs)
any_both true test xs = refl
any_both false test [] = refl
any_both false test (x ∷ xs) = any_both false test xs

pub any_of_some : {X Y : Type 0} (first : X → Bool) (o : Option X) (second : Y → Bool) (ys : List Y)
    → list_any (λ y. some_passes first o && second y) ys ≡ some_passes (λ x. first x && list_any second ys) o
any_of_some first None second ys = any_both false second ys
any_of_some first (Some x) second ys = any_both (first x) second ys

-- ---- tests with what is known

pub and_turned : (a b c : Bool) → c ≡ true → (a && b) ≡ (b && (a && c))
and_turned true true c is = sym is
and_turned true false c is = refl
and_turned false true c is = refl
and_turned false false c is = refl

pub and_never : (a b c : Bool) → c ≡ false → (b && (a && c)) ≡ false
and_never true true c is = is
and_never true false c is = refl
and_never false true c is = refl
and_never false false c is = refl
