-- Facts about lists that the laws need.
use Rattle.std.proofs.Common.{◌≡◌, ℕ, zero, suc, ◌+◌, ◌<◌, ◌≤◌, ◌==◌, Bool, true, false, not, ◌&&◌, ◌||◌, cond, List, [], ◌∷◌, ◌++◌, length, reverse, take, filter, Option, Some, None, is_some, refl, sym, ◌∙◌, ap, subst, inl, inr, ◌⊎◌, arith, filter_map, Contains, eq-or-lt_of_le, zero-lt-suc}
use Rattle.std.proofs.lemmas.Bool.Decides.{nat_tests}
use Rattle.std.proofs.lemmas.List.{reverse-append}
use Rattle.std.specs.List.{list_any, cons_option, range_with_len}

-- each of the list has a property
abbrev pub Each : {X : Type 0} → (X → Type 0) → List X → Type 0
Each P [] = Unit
Each P (x ∷ xs) = P x × Each P xs

pub Each-weaker : {X : Type 0} (P Q : X → Type 0) → ((x : X) → P x → Q x) → (xs : List X) → Each P xs → Each Q xs
Each-weaker P Q f [] h = tt
Each-weaker P Q f (x ∷ xs) h = (f x h.0, Each-weaker P Q f xs h.1)

pub Each-append : {X : Type 0} (P : X → Type 0) (xs ys : List X) → Each P xs → Each P ys → Each P (xs ++ ys)
Each-append P [] ys h k = k
Each-append P (x ∷ xs) ys h k = (h.0, Each-append P xs ys h.1 k)

pub Each-reverse : {X : Type 0} (P : X → Type 0) (xs : List X) → Each P xs → Each P (reverse xs)
Each-reverse P [] h = tt
Each-reverse P (x ∷ xs) h =
    subst (λ ys. Each P ys) (sym (reverse-append (x ∷ []) xs)) (Each-append P (reverse xs) (x ∷ []) (Each-reverse P xs h.1) (h.0, tt))

pub Each-take : {X : Type 0} (P : X → Type 0) (n : ℕ) (xs : List X) → Each P xs → Each P (take n xs)
Each-take P zero xs h = tt
Each-take P (suc n) [] h = tt
Each-take P (suc n) (x ∷ xs) h = (h.0, Each-take P n xs h.1)

pub Each-both : {X : Type 0} (P Q : X → Type 0) (xs : List X) → Each P xs → Each Q xs → Each (λ x. P x × Q x) xs
Each-both P Q [] h k = tt
Each-both P Q (x ∷ xs) h k = ((h.0, k.0), Each-both P Q xs h.1 k.1)

pub Each-all : {X : Type 0} (P : X → Type 0) → ((x : X) → P x) → (xs : List X) → Each P xs
Each-all P f [] = tt
Each-all P f (x ∷ xs) = (f x, Each-all P f xs)

pub filter_map-none : {X Y : Type 0} (f : X → Option Y) (xs : List X) → Each (λ x. f x ≡ None) xs → filter_map f xs ≡ []
filter_map-none f [] h = refl
filter_map-none f (x ∷ xs) h = ap (λ o. cons_option o (filter_map f xs)) h.0 ∙ filter_map-none f xs h.1

pub filter_map-same : {X Y : Type 0} (f g : X → Option Y) (xs : List X) → Each (λ x. f x ≡ g x) xs → filter_map f xs ≡ filter_map g xs
filter_map-same f g [] h = refl
filter_map-same f g (x ∷ xs) h =
    ap (λ o. cons_option o (filter_map f xs)) h.0 ∙ ap (λ ys. cons_option (g x) ys) (filter_map-same f g xs h.1)

pub length-filter_map : {X Y : Type 0} (f : X → Option Y) (xs : List X) → Each (λ x. is_some (f x) ≡ true) xs → length (filter_map f xs) ≡ length xs
length-filter_map f [] h = refl
length-filter_map {X} {Y} f (x ∷ xs) h = by (f x) h.0 (length-filter_map f xs h.1)
  where
    by : (o : Option Y) → is_some o ≡ true → length (filter_map f xs) ≡ length xs → length (cons_option o (filter_map f xs)) ≡ suc (length xs)
    by (Some y) is rest = ap (λ n. suc n) rest
    by None is rest = absurd (let e : false ≡ true = is in cc)

pub filter-none : {X : Type 0} (p : X → Bool) → ((x : X) → p x ≡ false) → (xs : List X) → filter p xs ≡ []
filter-none p h [] = refl
filter-none p h (x ∷ xs) = ap (λ b. cond b (x ∷ filter p xs) (filter p xs)) (h x) ∙ filter-none p h xs

pub list_any-none : {X : Type 0} (p : X → Bool) → ((x : X) → p x ≡ false) → (xs : List X) → list_any p xs ≡ false
list_any-none p h [] = refl
list_any-none p h (x ∷ xs) = ap (λ b. b || list_any p xs) (h x) ∙ list_any-none p h xs

pub list_any-same : {X : Type 0} (p q : X → Bool) → ((x : X) → p x ≡ q x) → (xs : List X) → list_any p xs ≡ list_any q xs
list_any-same p q h [] = refl
list_any-same p q h (x ∷ xs) = ap (λ b. b || list_any p xs) (h x) ∙ ap (λ b. q x || b) (list_any-same p q h xs)

-- what passes in a list is not filtered out
pub passing_kept : {X : Type 0} (p : X → Bool) (xs : List X) → list_any p xs ≡ true → filter p xs ≡ [] → ⊥
passing_kept p [] h none = cc
passing_kept p (x ∷ xs) h none = by (p x) (passing_kept p xs) h none
  where
    by : (b : Bool) → (list_any p xs ≡ true → filter p xs ≡ [] → ⊥) → (b || list_any p xs) ≡ true → cond b (x ∷ filter p xs) (filter p xs) ≡ [] → ⊥
    by true rest h none = cc
    by false rest h none = rest h none

pub same_number : (n : ℕ) → (n == n) ≡ true
same_number n = grind (arith, nat_tests)

pub turned_number : (a b : ℕ) → (a == b) ≡ (b == a)
turned_number a b = grind (arith, nat_tests)

pub true_or_false : (b : Bool) → (b ≡ true) ⊎ (b ≡ false)
true_or_false true = inl refl
true_or_false false = inr refl

pub and_left : (a b : Bool) → (a && b) ≡ true → a ≡ true
and_left true b h = refl
and_left false b h = h

pub and_right : (a b : Bool) → (a && b) ≡ true → b ≡ true
and_right true b h = h
and_right false b h = absurd cc

pub and_false : (a : Bool) → (a && false) ≡ false
and_false true = refl
and_false false = refl

pub and_true : (a : Bool) → (a && true) ≡ a
and_true true = refl
and_true false = refl

pub or_true : (a : Bool) → (a || true) ≡ true
or_true true = refl
or_true false = refl

pub not_true : (a : Bool) → not a ≡ true → a ≡ false
not_true true h = absurd cc
not_true false h = refl

-- a number is among those below a count
pub range_has : (p : ℕ → Bool) (a n k : ℕ) → a ≤ k → k < a + n → p k ≡ true → list_any p (range_with_len a n) ≡ true
range_has p a zero k low high h = absurd (omega arith)
range_has p a (suc n) k low high h = by (eq-or-lt_of_le low)
    (λ later. range_has p (a + 1) n k (omega arith) (omega arith) h)
  where
    by : (a ≡ k) ⊎ (a < k) → (a < k → list_any p (range_with_len (a + 1) n) ≡ true) → (p a || list_any p (range_with_len (a + 1) n)) ≡ true
    by (inl is) rest = ap (λ c. c || list_any p (range_with_len (a + 1) n)) (ap (λ (j : ℕ). p j) is ∙ h)
    by (inr later) rest = ap (λ c. p a || c) (rest later) ∙ or_true (p a)

pub Contains-number : (xs : List ℕ) (k : ℕ) → list_any (λ other. other == k) xs ≡ true → Contains xs k
Contains-number [] k h = absurd cc
Contains-number (x ∷ xs) k h = by (x == k) refl (Contains-number xs k) h
  where
    by : (b : Bool) → (x == k) ≡ b → (list_any (λ other. other == k) xs ≡ true → Contains xs k)
        → (b || list_any (λ other. other == k) xs) ≡ true → Contains (x ∷ xs) k
    by true is rest h = (0, zero-lt-suc (length xs), grind (arith, nat_tests))
    by false is rest h = let found : Contains xs k = rest h in (suc found.0, omega arith, found.2)
