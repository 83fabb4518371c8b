-- Lists: what some or all of them pass, and what is mapped, appended or turned round.
use Rattle.std.proofs.Common.{◌≡◌, ℕ, ◌==◌, Bool, true, false, ◌&&◌, ◌||◌, if◌then◌else◌, List, [], ◌∷◌, ◌++◌, length, map, reverse, Option, Some, None, refl, ◌∙◌, ap}
use Rattle.std.proofs.Math.Bool.{or-false, or-true, or_comm}
use Rattle.std.proofs.lemmas.List.{reverse-append}
use Rattle.std.proofs.lemmas.List.Folds.{list_any-append}
use Rattle.std.proofs.lemmas.Option.{same_Some}
use Rattle.std.proofs.lemmas.Slice.Eq.{bytes_eq-Decides}
use Rattle.std.specs.List.{list_all, list_any}
use Rattle.std.specs.Str.{bytes_eq}
use Rattle.pl_lemmas.specs.Words.{numbered}
use Rattle.pl_lemmas.proofs.Truth.{and_left, and_right}

-- ---- texts

pub same_bytes : (a b : List ℕ) → bytes_eq a b ≡ true → a ≡ b
same_bytes a b = (bytes_eq-Decides a b).0

-- a text is equal to itself
pub bytes_same : (text : List ℕ) → bytes_eq text text ≡ true
bytes_same text = (bytes_eq-Decides text text).1 refl

-- ---- empty lists

-- where two lists are empty together, each is
pub append_none : {X : Type 0} (xs ys : List X) → xs ++ ys ≡ [] → (xs ≡ []) × (ys ≡ [])
append_none [] ys h = (refl, h)
append_none (x ∷ xs) ys h = absurd (let e : x ∷ (xs ++ ys) ≡ [] = h in cc)

-- what is empty once it is mapped was empty
pub map_none : {X Y : Type 0} (f : X → Y) (xs : List X) → map f xs ≡ [] → xs ≡ []
map_none f [] h = refl
map_none f (x ∷ xs) h = absurd (let e : f x ∷ map f xs ≡ [] = h in cc)

-- ---- what some pass

pub any_same : {X : Type 0} (p q : X → Bool) → ((x : X) → p x ≡ q x) → (xs : List X) → list_any p xs ≡ list_any q xs
any_same p q h [] = refl
any_same p q h (x ∷ xs) = ap (λ b. b || list_any p xs) (h x) ∙ ap (λ b. q x || b) (any_same p q h xs)

pub any_mapped : {X Y : Type 0} (p : Y → Bool) (f : X → Y) (xs : List X) → list_any p (map f xs) ≡ list_any (λ x. p (f x)) xs
any_mapped p f [] = refl
any_mapped p f (x ∷ xs) = ap (λ (b : Bool). p (f x) || b) (any_mapped p f xs)

pub any_reversed : {X : Type 0} (p : X → Bool) (xs : List X) → list_any p (reverse xs) ≡ list_any p xs
any_reversed p [] = refl
any_reversed {X} p (x ∷ xs) =
    ap (λ (ys : List X). list_any p ys) (reverse-append (x ∷ []) xs)
    ∙ list_any-append p (reverse xs) (x ∷ [])
    ∙ ap (λ (b : Bool). list_any p (reverse xs) || b) (or-false (p x))
    ∙ ap (λ (b : Bool). b || p x) (any_reversed p xs)
    ∙ or_comm (list_any p xs) (p x)

pub any_front : {X : Type 0} (p : X → Bool) (xs ys : List X) → list_any p xs ≡ true → list_any p (xs ++ ys) ≡ true
any_front p xs ys h = list_any-append p xs ys ∙ ap (λ (b : Bool). b || list_any p ys) h

pub any_back : {X : Type 0} (p : X → Bool) (xs ys : List X) → list_any p ys ≡ true → list_any p (xs ++ ys) ≡ true
any_back p xs ys h = list_any-append p xs ys ∙ ap (λ (b : Bool). list_any p xs || b) h ∙ or-true (list_any p xs)

-- what a numbered one passes, some pass
pub numbered_passes : {X : Type 0} (test : X → Bool) (xs : List X) (n : ℕ) (x : X) → numbered xs n ≡ Some x → test x ≡ true
    → list_any test xs ≡ true
numbered_passes test [] n x h passes = absurd (let e : None ≡ Some x = h in cc)
numbered_passes {X = X} test (newest ∷ earlier) n x h passes = by (length earlier == n) h (numbered_passes test earlier n x)
  where
    by : (b : Bool) → (if b then Some newest else numbered earlier n) ≡ Some x
        → (numbered earlier n ≡ Some x → test x ≡ true → list_any test earlier ≡ true)
        → (test newest || list_any test earlier) ≡ true
    by true h rest =
        ap (λ (it : X). test it || list_any test earlier) (same_Some newest x h)
        ∙ ap (λ (b : Bool). b || list_any test earlier) passes
    by false h rest = ap (λ (b : Bool). test newest || b) (rest h passes) ∙ or-true (test newest)

-- ---- what all pass

-- where each passes one test, each passes a weaker one
pub all_weaker : {X : Type 0} (p q : X → Bool) → ((x : X) → p x ≡ true → q x ≡ true) → (xs : List X) → list_all p xs ≡ true → list_all q xs ≡ true
all_weaker p q weaker [] h = refl
all_weaker p q weaker (x ∷ xs) h =
    ap (λ (b : Bool). b && list_all q xs) (weaker x (and_left (p x) (list_all p xs) h)) ∙ all_weaker p q weaker xs (and_right (p x) (list_all p xs) h)
