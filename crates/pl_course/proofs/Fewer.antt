-- How many pass a test, where fewer things do.
use Rattle.std.proofs.Common.{◌≡◌, ℕ, ◌+◌, ◌==◌, ◌<◌, ◌≤◌, Bool, true, false, not, ◌&&◌, ◌||◌, cond, List, [], ◌∷◌, filter, length, refl, sym, ◌∙◌, ap, arith}
use Rattle.std.proofs.lemmas.List.FromFn.{length-range_with_len}
use Rattle.std.specs.List.{list_any, range_with_len}
use Rattle.pl_lemmas.specs.Words.{has_number}
use Rattle.pl_lemmas.proofs.Numbers.{range_has, same_number}
use Rattle.pl_course.specs.Room.{count_left}

-- no more pass a test than pass a weaker one
no_more : {X : Type 0} (p q : X → Bool) → ((x : X) → q x ≡ true → p x ≡ true) → (xs : List X) → length (filter q xs) ≤ length (filter p xs)
no_more p q weaker [] = omega arith
no_more {X = X} p q weaker (x ∷ xs) = by (p x) refl (q x) refl (no_more p q weaker xs)
  where
    by : (b : Bool) → p x ≡ b → (c : Bool) → q x ≡ c → length (filter q xs) ≤ length (filter p xs)
        → length (cond c (x ∷ filter q xs) (filter q xs)) ≤ length (cond b (x ∷ filter p xs) (filter p xs))
    by true is true there most = omega arith
    by true is false there most = omega arith
    by false is true there most = absurd (let e : false ≡ true = sym is ∙ weaker x there in cc)
    by false is false there most = most

-- and fewer, where one of the list passes the weaker one alone
pub fewer : {X : Type 0} (p q : X → Bool) → ((x : X) → q x ≡ true → p x ≡ true) → (xs : List X)
    → list_any (λ x. p x && not (q x)) xs ≡ true → length (filter q xs) + 1 ≤ length (filter p xs)
fewer p q weaker [] there = absurd (let e : false ≡ true = there in cc)
fewer {X = X} p q weaker (x ∷ xs) there = by (p x) refl (q x) refl there (no_more p q weaker xs) (fewer p q weaker xs)
  where
    by : (b : Bool) → p x ≡ b → (c : Bool) → q x ≡ c → ((b && not c) || list_any (λ y. p y && not (q y)) xs) ≡ true
        → length (filter q xs) ≤ length (filter p xs)
        → (list_any (λ y. p y && not (q y)) xs ≡ true → length (filter q xs) + 1 ≤ length (filter p xs))
        → length (cond c (x ∷ filter q xs) (filter q xs)) + 1 ≤ length (cond b (x ∷ filter p xs) (filter p xs))
    by true is true too there most more = let less : length (filter q xs) + 1 ≤ length (filter p xs) = more there in omega arith
    by true is false not_too there most more = omega arith
    by false is true too there most more = absurd (let e : false ≡ true = sym is ∙ weaker x too in cc)
    by false is false not_too there most more = more there

-- one of what is kept passes a test, where what is kept and passes another one passes that
pub any_kept : {X : Type 0} (keep test good : X → Bool) → ((x : X) → keep x ≡ true → test x ≡ true → good x ≡ true) → (xs : List X)
    → list_any test (filter keep xs) ≡ true → list_any good xs ≡ true
any_kept keep test good so [] there = absurd (let e : false ≡ true = there in cc)
any_kept {X = X} keep test good so (x ∷ xs) there = by (keep x) refl (test x) refl (good x) refl there (any_kept keep test good so xs)
  where
    by : (b : Bool) → keep x ≡ b → (c : Bool) → test x ≡ c → (d : Bool) → good x ≡ d
        → list_any test (cond b (x ∷ filter keep xs) (filter keep xs)) ≡ true
        → (list_any test (filter keep xs) ≡ true → list_any good xs ≡ true) → (d || list_any good xs) ≡ true
    by b kept c tested true is there more = refl
    by false kept c tested false is there more = more there
    by true kept true tested false is there more = absurd (let e : false ≡ true = sym is ∙ so x kept tested in cc)
    by true kept false tested false is there more =
        more (ap (λ (b : Bool). b || list_any test (filter keep xs)) (sym tested) ∙ there)

-- ---- numbers

not_either : (a b : Bool) → not (a || b) ≡ true → not b ≡ true
not_either true b h = absurd (let e : false ≡ true = h in cc)
not_either false b h = h

-- fewer numbers are left, where one more is gone
pub fewer_left : (gone : List ℕ) (number count : ℕ) → has_number gone number ≡ false → number < count
    → count_left (number ∷ gone) count + 1 ≤ count_left gone count
fewer_left gone number count absent within =
    fewer (λ n. not (has_number gone n)) (λ n. not ((number == n) || has_number gone n))
    (λ n left. not_either (number == n) (has_number gone n) left) (range_with_len 0 count)
    (range_has (λ n. not (has_number gone n) && not (not ((number == n) || has_number gone n))) 0 count number (omega arith) (omega arith)
    (λ i. not (absent i) && not (not (same_number number i || absent i))))

filter_all : {X : Type 0} (test : X → Bool) (xs : List X) → length (filter test xs) ≤ length xs
filter_all test [] = omega arith
filter_all {X = X} test (x ∷ xs) = by (test x) (filter_all test xs)
  where
    by : (b : Bool) → length (filter test xs) ≤ length xs → length (cond b (x ∷ filter test xs) (filter test xs)) ≤ length (x ∷ xs)
    by true most = omega arith
    by false most = omega arith

-- no more numbers are left than there are
pub left_most : (gone : List ℕ) (count : ℕ) → count_left gone count ≤ count
left_most gone count =
    let most : length (filter (λ n. not (has_number gone n)) (range_with_len 0 count)) ≤ length (range_with_len 0 count) =
    filter_all (λ n. not (has_number gone n)) (range_with_len 0 count) in
    omega (arith, length-range_with_len 0 count)
