-- Lists that are written to, or in which a test is passed once.
use Rattle.std.proofs.Common.{◌≡◌, ◌<◌, ◌+◌, ℕ, zero, suc, Bool, true, false, ◌==◌, ◌&&◌, ◌||◌, cond, if◌then◌else◌, List, [], ◌∷◌, ◌++◌, length, take, get_or, Option, Some, None, refl, sym, ap, subst, ◌∙◌, arith}
use Rattle.std.proofs.lemmas.List.{take_more}
use Rattle.std.proofs.lemmas.Option.{same_Some}
use Rattle.std.specs.List.{find, list_any, slice_get}
use Rattle.std.specs.Option.{option_or}
use Rattle.pl_lemmas.specs.Words.{first_some}
use Rattle.pl_lemmas.proofs.Numbered.{get_push}
use Rattle.pl_lemmas.proofs.Options.{neither}

-- what holds of each element holds of each with one more at the end
pub each_push : {X : Type 0} (xs : List X) (y : X) (P : X → Type 0) → ((k : ℕ) (x : X) → slice_get xs k ≡ Some x → P x) → P y
    → (k : ℕ) (x : X) → slice_get (xs ++ y ∷ []) k ≡ Some x → P x
each_push xs y P each last k x is = by (length xs == k) (sym (get_push xs y k) ∙ is)
  where
    by : (b : Bool) → (if b then Some y else slice_get xs k) ≡ Some x → P x
    by true here = subst P (same_Some y x here) last
    by false there = each k x there

-- ---- a test that is passed once

-- no two elements pass the test
abbrev pub Once : {X : Type 0} → (X → Bool) → List X → Type 0
Once test [] = Unit {0}
Once test (x ∷ xs) = (test x ≡ true → list_any test xs ≡ false) × Once test xs

-- what is found, if it passes one more test
abbrev pub if_passes : {X : Type 0} → (X → Bool) → Option X → Option X
if_passes test None = None
if_passes test (Some x) = if test x then Some x else None

none_both : {X : Type 0} (p q : X → Bool) (xs : List X) → list_any p xs ≡ false → find (λ x. p x && q x) xs ≡ None
none_both p q [] none = refl
none_both {X = X} p q (x ∷ xs) none = by (p x) none (none_both p q xs)
  where
    by : (b : Bool) → (b || list_any p xs) ≡ false → (list_any p xs ≡ false → find (λ y. p y && q y) xs ≡ None)
        → cond (b && q x) (Some x) (find (λ y. p y && q y) xs) ≡ None
    by true h rest = absurd (let e : true ≡ false = h in cc)
    by false h rest = rest h

pub find_both : {X : Type 0} (p q : X → Bool) (xs : List X) → Once p xs → find (λ x. p x && q x) xs ≡ if_passes q (find p xs)
find_both p q [] once = refl
find_both {X = X} p q (x ∷ xs) once = by (p x) refl (find_both p q xs once.1)
  where
    at : (b : Bool) → find (λ y. p y && q y) xs ≡ None → cond b (Some x) (find (λ y. p y && q y) xs) ≡ (if b then Some x else None)
    at true none = refl
    at false none = none

    by : (b : Bool) → p x ≡ b → find (λ y. p y && q y) xs ≡ if_passes q (find p xs)
        → cond (b && q x) (Some x) (find (λ y. p y && q y) xs) ≡ if_passes q (cond b (Some x) (find p xs))
    by true is rest = at (q x) (none_both p q xs (once.0 is))
    by false is rest = rest

-- ---- the first that is found

pub first_found : {X Y : Type 0} (found : X → Option Y) (xs : List X) (i : ℕ) (x : X) (y : Y) → i < length xs → x ≡ get_or xs i x
    → first_some found (take i xs) ≡ None → found x ≡ Some y → Some y ≡ first_some found xs
first_found found [] i x y inside is none here = absurd (omega arith)
first_found {Y = Y} found (first ∷ xs) zero x y inside is none here =
    let same : x ≡ first = is in
    sym (ap (λ (o : Option Y). option_or o (first_some found xs)) (ap found (sym same) ∙ here))
first_found {Y = Y} found (first ∷ xs) (suc i) x y inside is none here =
    let parts = neither (found first) (first_some found (take i xs)) none in
    first_found found xs i x y (omega arith) is parts.1 here ∙ ap (λ (o : Option Y). option_or o (first_some found xs)) (sym parts.0)

first_push : {X Y : Type 0} (found : X → Option Y) (xs : List X) (x : X) → first_some found xs ≡ None → found x ≡ None
    → first_some found (xs ++ x ∷ []) ≡ None
first_push {Y = Y} found [] x none here = ap (λ (o : Option Y). option_or o None) here
first_push {Y = Y} found (first ∷ xs) x none here =
    let parts = neither (found first) (first_some found xs) none in
    ap (λ (o : Option Y). option_or o (first_some found (xs ++ x ∷ []))) parts.0 ∙ first_push found xs x parts.1 here

pub first_more : {X Y : Type 0} (found : X → Option Y) (xs : List X) (i : ℕ) (x : X) → i < length xs → x ≡ get_or xs i x
    → first_some found (take i xs) ≡ None → found x ≡ None → first_some found (take (i + 1) xs) ≡ None
first_more {X = X} found xs i x inside is none here =
    ap (first_some found) (take_more xs i x inside ∙ ap (λ (last : X). take i xs ++ last ∷ []) (sym is))
    ∙ first_push found (take i xs) x none here
