-- Lists that stand newest first, and the places of what is in them.
use Rattle.std.proofs.Common.{◌≡◌, ◌<◌, ℕ, zero, suc, Bool, true, false, ◌==◌, cond, List, [], ◌∷◌, ◌++◌, length, reverse, Option, Some, None, option_and_then, refl, sym, ap, ◌∙◌, arith}
use Rattle.std.proofs.lemmas.Bool.Decides.{nat_tests}
use Rattle.std.proofs.lemmas.List.{reverse-append, reverse-reverse, length-reverse}
use Rattle.std.proofs.lemmas.Option.{none-some, same_Some}
use Rattle.std.specs.List.{find, slice_get}
use Rattle.pl_lemmas.specs.Words.{number_where, numbered, some_passes}
use Rattle.pl_lemmas.proofs.Numbers.{same_number}

zero_suc : (k : ℕ) → (0 == suc k) ≡ false
zero_suc k = grind (arith, nat_tests)

suc_zero : (k : ℕ) → (suc k == 0) ≡ false
suc_zero k = grind (arith, nat_tests)

pub reverse-push : {X : Type 0} (xs : List X) (x : X) → reverse (xs ++ x ∷ []) ≡ x ∷ reverse xs
reverse-push xs x = reverse-append xs (x ∷ [])

get-push : {X : Type 0} (xs : List X) (y : X) (k : ℕ) → slice_get (xs ++ y ∷ []) k ≡ cond (length xs == k) (Some y) (slice_get xs k)
get-push [] y zero = refl
get-push {X = X} [] y (suc k) = ap (λ (b : Bool). cond b (Some y) None) (sym (zero_suc k))
get-push {X = X} (x ∷ xs) y zero = ap (λ (b : Bool). cond b (Some y) (Some x)) (sym (suc_zero (length xs)))
get-push {X = X} (x ∷ xs) y (suc k) =
    let same : (suc (length xs) == suc k) ≡ (length xs == k) = grind (arith, nat_tests) in
    get-push xs y k ∙ ap (λ (b : Bool). cond b (Some y) (slice_get xs k)) (sym same)

numbered-turned : {X : Type 0} (ys : List X) (n : ℕ) → numbered ys n ≡ slice_get (reverse ys) n
numbered-turned [] n = refl
numbered-turned {X = X} (y ∷ ys) n =
    ap (λ (o : Option X). cond (length ys == n) (Some y) o) (numbered-turned ys n)
    ∙ ap (λ (k : ℕ). cond (k == n) (Some y) (slice_get (reverse ys) n)) (sym (length-reverse ys))
    ∙ sym (get-push (reverse ys) y n)
    ∙ ap (λ (l : List X). slice_get l n) (sym (reverse-append (y ∷ []) ys))

-- what stands under a number of a list that stands newest first stands at that place from its other end
pub numbered-reverse : {X : Type 0} (xs : List X) (n : ℕ) → numbered (reverse xs) n ≡ slice_get xs n
numbered-reverse {X = X} xs n = numbered-turned (reverse xs) n ∙ ap (λ (l : List X). slice_get l n) (reverse-reverse xs)

-- ---- what is found by a test

pub where_within : {X : Type 0} (test : X → Bool) (xs : List X) (n : ℕ) → number_where test xs ≡ Some n → n < length xs
where_within test [] n e = absurd (none-some n e)
where_within test (x ∷ xs) n e = by (where_within test xs n) (test x) e
  where
    by : (number_where test xs ≡ Some n → n < length xs) → (b : Bool) → cond b (Some (length xs)) (number_where test xs) ≡ Some n → n < suc (length xs)
    by within true here = let same : length xs ≡ n = same_Some (length xs) n here in omega arith
    by within false later = let less : n < length xs = within later in omega arith

-- what passes a test stands under the number that is found by it
pub find-number : {X : Type 0} (test : X → Bool) (xs : List X) → find test xs ≡ option_and_then (numbered xs) (number_where test xs)
find-number test [] = refl
find-number {X = X} test (x ∷ xs) = by (find-number test xs) (test x)
  where
    here : Some x ≡ cond (length xs == length xs) (Some x) (numbered xs (length xs))
    here = ap (λ (b : Bool). cond b (Some x) (numbered xs (length xs))) (sym (same_number (length xs)))

    later : (o : Option ℕ) → number_where test xs ≡ o → option_and_then (numbered xs) o ≡ option_and_then (numbered (x ∷ xs)) o
    later None e = refl
    later (Some n) e =
        let within : n < length xs = where_within test xs n e in
        let other : (length xs == n) ≡ false = grind (arith, nat_tests) in
        ap (λ (b : Bool). cond b (Some x) (numbered xs n)) (sym other)

    by : find test xs ≡ option_and_then (numbered xs) (number_where test xs) → (b : Bool)
        → cond b (Some x) (find test xs) ≡ option_and_then (numbered (x ∷ xs)) (cond b (Some (length xs)) (number_where test xs))
    by rest true = here
    by rest false = rest ∙ later (number_where test xs) refl

pub where_passes : {X : Type 0} (p test : X → Bool) → ((x : X) → test x ≡ true → p x ≡ true) → (xs : List X) (n : ℕ) → number_where test xs ≡ Some n → some_passes p (numbered xs n) ≡ true
where_passes p test implies [] n e = absurd (none-some n e)
where_passes {X = X} p test implies (x ∷ xs) n e = by (where_passes p test implies xs n) (test x) refl e
  where
    by : (number_where test xs ≡ Some n → some_passes p (numbered xs n) ≡ true) → (b : Bool) → test x ≡ b → cond b (Some (length xs)) (number_where test xs) ≡ Some n → some_passes p (cond (length xs == n) (Some x) (numbered xs n)) ≡ true
    by rest true is here =
        let same : length xs ≡ n = same_Some (length xs) n here in
        let at : (length xs == n) ≡ true = grind (arith, nat_tests) in
        ap (λ (b : Bool). some_passes p (cond b (Some x) (numbered xs n))) at ∙ implies x is
    by rest false is later =
        let within : n < length xs = where_within test xs n later in
        let other : (length xs == n) ≡ false = grind (arith, nat_tests) in
        ap (λ (b : Bool). some_passes p (cond b (Some x) (numbered xs n))) other ∙ rest later
