-- Counts of what tests leave.
use Rattle.std.proofs.Common.{◌≡◌, ℕ, ◌+◌, ◌≤◌, ◌<◌, Bool, true, false, not, ◌&&◌, cond, List, [], ◌∷◌, filter, filter_map, length, map, reverse, Option, Some, None, refl, ◌∙◌, ap, arith}
use Rattle.std.proofs.lemmas.List.{length-append, reverse-append}
use Rattle.std.proofs.lemmas.List.Elements.{filter-append, filter_map-append}
use Rattle.std.specs.List.{cons_option, enumerate_from}
use Rattle.pl_lemmas.proofs.Truth.{and_not}
use Rattle.pl_lemmas.proofs.Each.{IsAmong}
use Rattle.pl_model_stays.proofs.Lists.Among.{any_among}
use Rattle.pl_model_stays.proofs.Lists.Counting.{fewer}

-- what one test leaves of what another one leaves
pub kept_both : {X : Type 0} (p q : X → Bool) (xs : List X) → length (filter p (filter q xs)) ≡ length (filter (λ x. q x && p x) xs)
kept_both p q [] = refl
kept_both {X = X} p q (x ∷ xs) = by (q x) (p x) refl (kept_both p q xs)
  where
    by : (b c : Bool) → p x ≡ c → length (filter p (filter q xs)) ≡ length (filter (λ y. q y && p y) xs)
        → length (filter p (cond b (x ∷ filter q xs) (filter q xs)))
        ≡ length (cond (b && p x) (x ∷ filter (λ y. q y && p y) xs) (filter (λ y. q y && p y) xs))
    by true true is rest = rw is (omega arith)
    by true false is rest = rw is rest
    by false c is rest = rest

-- what a test leaves of what was made of a list
pub kept_mapped : {X Y : Type 0} (p : Y → Bool) (f : X → Y) (xs : List X) → length (filter p (map f xs)) ≡ length (filter (λ x. p (f x)) xs)
kept_mapped p f [] = refl
kept_mapped {X = X} {Y = Y} p f (x ∷ xs) = by (p (f x)) (kept_mapped p f xs)
  where
    by : (b : Bool) → length (filter p (map f xs)) ≡ length (filter (λ y. p (f y)) xs)
        → length (cond b (f x ∷ filter p (map f xs)) (filter p (map f xs)))
        ≡ length (cond b (x ∷ filter (λ y. p (f y)) xs) (filter (λ y. p (f y)) xs))
    by true rest = omega arith
    by false rest = rest

-- a test leaves as much of a list the other way round
pub kept_turned : {X : Type 0} (p : X → Bool) (xs : List X) → length (filter p (reverse xs)) ≡ length (filter p xs)
kept_turned p [] = refl
kept_turned {X = X} p (x ∷ xs) =
    ap (λ (ys : List X). length (filter p ys)) (reverse-append (x ∷ []) xs)
    ∙ ap (λ (ys : List X). length ys) (filter-append p (reverse xs) (x ∷ []))
    ∙ length-append (filter p (reverse xs)) (filter p (x ∷ []))
    ∙ by (p x) (kept_turned p xs)
  where
    by : (b : Bool) → length (filter p (reverse xs)) ≡ length (filter p xs)
        → length (filter p (reverse xs)) + length (cond b (x ∷ []) []) ≡ length (cond b (x ∷ filter p xs) (filter p xs))
    by true rest = omega arith
    by false rest = omega arith

-- as much is found in a list the other way round
pub found_turned : {X Y : Type 0} (f : X → Option Y) (xs : List X) → length (filter_map f (reverse xs)) ≡ length (filter_map f xs)
found_turned f [] = refl
found_turned {X = X} {Y = Y} f (x ∷ xs) =
    ap (λ (ys : List X). length (filter_map f ys)) (reverse-append (x ∷ []) xs)
    ∙ ap (λ (ys : List Y). length ys) (filter_map-append f (reverse xs) (x ∷ []))
    ∙ length-append (filter_map f (reverse xs)) (filter_map f (x ∷ []))
    ∙ by (f x) (found_turned f xs)
  where
    by : (o : Option Y) → length (filter_map f (reverse xs)) ≡ length (filter_map f xs)
        → length (filter_map f (reverse xs)) + length (cons_option o []) ≡ length (cons_option o (filter_map f xs))
    by None rest = omega arith
    by (Some y) rest = omega arith

-- a test leaves no more than there is
pub kept_low : {X : Type 0} (p : X → Bool) (xs : List X) → length (filter p xs) ≤ length xs
kept_low p [] = omega arith
kept_low {X = X} p (x ∷ xs) = by (p x) (kept_low p xs)
  where
    by : (b : Bool) → length (filter p xs) ≤ length xs → length (cond b (x ∷ filter p xs) (filter p xs)) ≤ length (x ∷ xs)
    by true rest = omega arith
    by false rest = omega arith

-- one more is left, if one is
pub one_kept : {X : Type 0} (b : Bool) (x : X) (xs : List X) (k : ℕ) → (b ≡ true → 1 ≤ k) → length (cond b (x ∷ xs) xs) ≤ length xs + k
one_kept true x xs k h = let one : 1 ≤ k = h refl in omega arith
one_kept false x xs k h = omega arith

-- one more at most
pub one_added : {X : Type 0} (o : Option X) (xs : List X) → length (cons_option o xs) ≤ length xs + 1
one_added None xs = omega arith
one_added (Some x) xs = omega arith

-- a weaker test leaves one less, where one does not pass that did
pub one_less : {X : Type 0} (p q : X → Bool) → ((x : X) → q x ≡ true → p x ≡ true) → (xs : List X) (x : X) → IsAmong x xs
    → p x ≡ true → q x ≡ false → length (filter q xs) + 1 ≤ length (filter p xs)
one_less p q weaker xs x there is none =
    let less : length (filter q xs) < length (filter p xs) =
    fewer p q weaker xs (any_among (λ y. p y && not (q y)) xs x there (and_not (p x) (q x) is none)) in
    omega arith

-- the numbers of numbered ones aside, they are what they were
pub numbers_aside : {X : Type 0} (k : ℕ) (xs : List X) → map (λ (one : ℕ × X). one.1) (enumerate_from k xs) ≡ xs
numbers_aside k [] = refl
numbers_aside {X = X} k (x ∷ xs) = ap (λ (ys : List X). x ∷ ys) (numbers_aside (k + 1) xs)
