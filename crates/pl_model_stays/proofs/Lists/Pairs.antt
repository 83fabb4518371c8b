-- Lists of which each two elements stand in a relation.
use Rattle.std.proofs.Common.{◌≡◌, ◌≢◌, ℕ, zero, suc, ◌+◌, ◌<◌, ◌≤◌, ◌==◌, Bool, true, false, cond, List, [], ◌∷◌, ◌++◌, AllPairs, filter, filter_map, length, reverse, Option, Some, None, refl, sym, ◌∙◌, subst, arith, map}
use Rattle.std.proofs.lemmas.Bool.Decides.{nat_tests}
use Rattle.std.proofs.lemmas.List.{reverse-append}
use Rattle.std.proofs.lemmas.List.Kept.{AllPairs-cons}
use Rattle.std.specs.List.{cons_option, range_with_len, list_any, flat_map}
use Rattle.std.proofs.Math.Bool.{or-true}
use Rattle.pl_lemmas.proofs.Each.{Each, Pairwise, each_weaker, each_append, each_reverse, each_all}

pub each-mapped : {X Y : Type 0} (f : X → Option Y) (P : Y → Type 0) (xs : List X)
    → Each (λ x. (y : Y) → f x ≡ Some y → P y) xs → Each P (filter_map f xs)
each-mapped f P [] h = tt
each-mapped {X} {Y} f P (x ∷ xs) h = by (f x) refl (each-mapped f P xs h.1)
  where
    by : (o : Option Y) → f x ≡ o → Each P (filter_map f xs) → Each P (cons_option o (filter_map f xs))
    by None is rest = rest
    by (Some y) is rest = (h.0 y is, rest)

pub each-filter : {X : Type 0} (P : X → Type 0) (p : X → Bool) (xs : List X) → Each P xs → Each P (filter p xs)
each-filter P p [] h = tt
each-filter {X} P p (x ∷ xs) h = by (p x) refl (each-filter P p xs h.1)
  where
    by : (b : Bool) → p x ≡ b → Each P (filter p xs) → Each P (filter p (x ∷ xs))
    by true is rest = rw is (h.0, rest)
    by false is rest = rw is rest

-- what a filter leaves passes its test
pub each-passes : {X : Type 0} (p : X → Bool) (xs : List X) → Each (λ x. p x ≡ true) (filter p xs)
each-passes p [] = tt
each-passes {X} p (x ∷ xs) = by (p x) refl (each-passes p xs)
  where
    by : (b : Bool) → p x ≡ b → Each (λ y. p y ≡ true) (filter p xs) → Each (λ y. p y ≡ true) (filter p (x ∷ xs))
    by true is rest = rw is (is, rest)
    by false is rest = rw is rest

-- ---- pairs

pub pairs-all : {X : Type 0} (R : X → X → Type 0) (xs : List X) → Pairwise R xs → AllPairs R xs
pairs-all R [] h = λ i j d before low. absurd (omega arith)
pairs-all R (x ∷ xs) h = AllPairs-cons R x xs (each_all (R x) xs h.0) (pairs-all R xs h.1)

pub pairs-weaker : {X : Type 0} (R S : X → X → Type 0) → ((x y : X) → R x y → S x y) → (xs : List X) → Pairwise R xs → Pairwise S xs
pairs-weaker R S f [] h = tt
pairs-weaker R S f (x ∷ xs) h = (each_weaker (R x) (S x) (f x) xs h.0, pairs-weaker R S f xs h.1)

-- where each also has a property
pub pairs-with : {X : Type 0} (R S : X → X → Type 0) (P : X → Type 0) → ((x y : X) → P x → P y → R x y → S x y)
    → (xs : List X) → Each P xs → Pairwise R xs → Pairwise S xs
pairs-with R S P f [] k h = tt
pairs-with {X} R S P f (x ∷ xs) k h = (both xs k.1 h.0, pairs-with R S P f xs k.1 h.1)
  where
    both : (ys : List X) → Each P ys → Each (R x) ys → Each (S x) ys
    both [] p r = tt
    both (y ∷ ys) p r = (f x y k.0 p.0 r.0, both ys p.1 r.1)

pub pairs-append : {X : Type 0} (R : X → X → Type 0) (xs ys : List X) → Pairwise R xs → Pairwise R ys
    → Each (λ x. Each (R x) ys) xs → Pairwise R (xs ++ ys)
pairs-append R [] ys h k cross = k
pairs-append R (x ∷ xs) ys h k cross = (each_append (R x) xs ys h.0 cross.0, pairs-append R xs ys h.1 k cross.1)

-- the other way round each stands in the converse relation
pub pairs-turned : {X : Type 0} (R S : X → X → Type 0) → ((x y : X) → R x y → S y x) → (xs : List X) → Pairwise R xs → Pairwise S (reverse xs)
pairs-turned R S turn [] h = tt
pairs-turned R S turn (x ∷ xs) h =
    subst (λ ys. Pairwise S ys) (sym (reverse-append (x ∷ []) xs))
    (pairs-append S (reverse xs) (x ∷ []) (pairs-turned R S turn xs h.1) (tt, tt)
    (each_weaker (R x) (λ y. Each (S y) (x ∷ [])) (λ y r. (turn x y r, tt)) (reverse xs) (each_reverse (R x) xs h.0)))

pub pairs-reverse : {X : Type 0} (R : X → X → Type 0) → ((x y : X) → R x y → R y x) → (xs : List X) → Pairwise R xs → Pairwise R (reverse xs)
pairs-reverse R turn xs h = pairs-turned R R turn xs h

pub pairs-filter : {X : Type 0} (R : X → X → Type 0) (p : X → Bool) (xs : List X) → Pairwise R xs → Pairwise R (filter p xs)
pairs-filter R p [] h = tt
pairs-filter {X} R p (x ∷ xs) h = by (p x) refl (pairs-filter R p xs h.1)
  where
    by : (b : Bool) → p x ≡ b → Pairwise R (filter p xs) → Pairwise R (filter p (x ∷ xs))
    by true is rest = rw is (each-filter (R x) p xs h.0, rest)
    by false is rest = rw is rest

pub pairs-mapped : {X Y : Type 0} (f : X → Option Y) (R : Y → Y → Type 0) (xs : List X)
    → Pairwise (λ a b. (y z : Y) → f a ≡ Some y → f b ≡ Some z → R y z) xs → Pairwise R (filter_map f xs)
pairs-mapped f R [] h = tt
pairs-mapped {X} {Y} f R (x ∷ xs) h = by (f x) refl (pairs-mapped f R xs h.1)
  where
    by : (o : Option Y) → f x ≡ o → Pairwise R (filter_map f xs) → Pairwise R (cons_option o (filter_map f xs))
    by None is rest = rest
    by (Some y) is rest =
        (each-mapped f (R y) xs (each_weaker _ (λ a. (z : Y) → f a ≡ Some z → R y z) (λ a at z found. at y z is found) xs h.0), rest)

-- ---- numbers

-- the numbers of a range are above its beginning
range_above : (a n : ℕ) → Each (λ k. a ≤ k) (range_with_len a n)
range_above a zero = tt
range_above a (suc n) = (omega arith, each_weaker (λ k. a + 1 ≤ k) (λ k. a ≤ k) (λ k low. omega arith) (range_with_len (a + 1) n) (range_above (a + 1) n))

-- the numbers of a range rise
pub range_rises : (a n : ℕ) → Pairwise (λ k l. k < l) (range_with_len a n)
range_rises a zero = tt
range_rises a (suc n) =
    (each_weaker (λ k. a + 1 ≤ k) (λ k. a < k) (λ k low. omega arith) (range_with_len (a + 1) n) (range_above (a + 1) n), range_rises (a + 1) n)

-- where every number stands once, no two are the same
pub once_apart : (xs : List ℕ) → ((n : ℕ) → length (filter (λ other. other == n) xs) ≤ 1) → Pairwise (λ k l. k ≢ l) xs
once_apart [] h = tt
once_apart (x ∷ xs) h = (others xs (none (h x)), once_apart xs (λ n. fewer n (x == n) refl (h n)))
  where
    none : length (filter (λ other. other == x) (x ∷ xs)) ≤ 1 → length (filter (λ other. other == x) xs) ≡ 0
    none one = let here : (x == x) ≡ true = grind (arith, nat_tests) in
        let counted : length (x ∷ filter (λ other. other == x) xs) ≤ 1 = subst (λ (b : Bool). length (cond b (x ∷ filter (λ other. other == x) xs) (filter (λ other. other == x) xs)) ≤ 1) here one in
        omega arith

    fewer : (n : ℕ) (b : Bool) → (x == n) ≡ b → length (filter (λ other. other == n) (x ∷ xs)) ≤ 1 → length (filter (λ other. other == n) xs) ≤ 1
    fewer n true is one = let counted : length (x ∷ filter (λ other. other == n) xs) ≤ 1 = subst (λ (b : Bool). length (cond b (x ∷ filter (λ other. other == n) xs) (filter (λ other. other == n) xs)) ≤ 1) is one in
        omega arith
    fewer n false is one = subst (λ (b : Bool). length (cond b (x ∷ filter (λ other. other == n) xs) (filter (λ other. other == n) xs)) ≤ 1) is one

    others : (ys : List ℕ) → length (filter (λ other. other == x) ys) ≡ 0 → Each (λ y. x ≢ y) ys
    others [] zero_left = tt
    others (y ∷ ys) zero_left = by (y == x) refl zero_left (others ys)
      where
        by : (b : Bool) → (y == x) ≡ b → length (filter (λ other. other == x) (y ∷ ys)) ≡ 0
            → (length (filter (λ other. other == x) ys) ≡ 0 → Each (λ z. x ≢ z) ys) → Each (λ z. x ≢ z) (y ∷ ys)
        by true is left rest = absurd (let counted : length (y ∷ filter (λ other. other == x) ys) ≡ 0 = subst (λ (b : Bool). length (cond b (y ∷ filter (λ other. other == x) ys) (filter (λ other. other == x) ys)) ≡ 0) is left in omega arith)
        by false is left rest = (
          λ same. absurd (let here : (y == x) ≡ true = grind (arith, nat_tests) in let e : true ≡ false = sym here ∙ is in cc),
          rest (subst (λ (b : Bool). length (cond b (y ∷ filter (λ other. other == x) ys) (filter (λ other. other == x) ys)) ≡ 0) is left),
        )

pub each_map : {X Y : Type 0} (f : X → Y) (P : Y → Type 0) (xs : List X) → Each (λ x. P (f x)) xs → Each P (map f xs)
each_map f P [] h = tt
each_map f P (x ∷ xs) h = (h.0, each_map f P xs h.1)

pub each_flat : {X Y : Type 0} (f : X → List Y) (P : Y → Type 0) (xs : List X) → Each (λ x. Each P (f x)) xs → Each P (flat_map f xs)
each_flat f P [] h = tt
each_flat f P (x ∷ xs) h = each_append P (f x) (flat_map f xs) h.0 (each_flat f P xs h.1)

pub each_front : {X : Type 0} (P : X → Type 0) (xs ys : List X) → Each P (xs ++ ys) → Each P xs
each_front P [] ys h = tt
each_front P (x ∷ xs) ys h = (h.0, each_front P xs ys h.1)

pub each_back : {X : Type 0} (P : X → Type 0) (xs ys : List X) → Each P (xs ++ ys) → Each P ys
each_back P [] ys h = h
each_back P (x ∷ xs) ys h = each_back P xs ys h.1

pub each_unmap : {X Y : Type 0} (f : X → Y) (P : Y → Type 0) (xs : List X) → Each P (map f xs) → Each (λ x. P (f x)) xs
each_unmap f P [] h = tt
each_unmap f P (x ∷ xs) h = (h.0, each_unmap f P xs h.1)

pub each_unflat : {X Y : Type 0} (f : X → List Y) (P : Y → Type 0) (xs : List X) → Each P (flat_map f xs) → Each (λ x. Each P (f x)) xs
each_unflat f P [] h = tt
each_unflat f P (x ∷ xs) h = (each_front P (f x) (flat_map f xs) h, each_unflat f P xs (each_back P (f x) (flat_map f xs) h))

-- an element by which a list passes
pub each_names : {X Y : Type 0} (p : X → Y → Bool) (xs : List X) → Each (λ x. (y : Y) → p x y ≡ true → list_any (λ z. p z y) xs ≡ true) xs
each_names p [] = tt
each_names {X} {Y} p (x ∷ xs) =
    (λ y h. rw h refl, more xs (each_names p xs))
  where
    more : (ys : List X) → Each (λ z. (y : Y) → p z y ≡ true → list_any (λ w. p w y) xs ≡ true) ys
        → Each (λ z. (y : Y) → p z y ≡ true → list_any (λ w. p w y) (x ∷ xs) ≡ true) ys
    more [] h = tt
    more (z ∷ ys) h = ((λ y passes. rw (h.0 y passes) (or-true (p x y))), more ys h.1)
