-- Lists of which each element, each two of them, or one of them has a property.
use Rattle.std.proofs.Common.{◌≡◌, ℕ, zero, suc, ◌+◌, ◌<◌, Bool, true, false, List, [], ◌∷◌, ◌++◌, All, filter_map, length, reverse, slice_get, take, Option, Some, None, is_some, inl, inr, ◌⊎◌, refl, sym, ◌∙◌, ap, subst, arith}
use Rattle.std.proofs.lemmas.List.{reverse-append}
use Rattle.std.proofs.lemmas.Option.{same_Some}
use Rattle.std.specs.List.{cons_option, slice_index_or}

-- each of the list has a property
abbrev pub Each : {X : Type 0} → (X → Type 0) → List X → Type 0
Each P [] = Unit
Each P (x ∷ xs) = P x × Each P xs

-- each stands in the relation to every one after it
abbrev pub Pairwise : {X : Type 0} → (X → X → Type 0) → List X → Type 0
Pairwise R [] = Unit
Pairwise R (x ∷ xs) = Each (R x) xs × Pairwise R xs

-- one of a list
abbrev pub IsAmong : {X : Type 0} → X → List X → Type 0
IsAmong x [] = ⊥
IsAmong x (y ∷ ys) = (x ≡ y) ⊎ IsAmong x ys

-- ---- from each to each

-- what holds of anything holds of each
pub each_always : {X : Type 0} (P : X → Type 0) → ((x : X) → P x) → (xs : List X) → Each P xs
each_always P all [] = tt
each_always P all (x ∷ xs) = (all x, each_always P all xs)

pub each_weaker : {X : Type 0} (P Q : X → Type 0) → ((x : X) → P x → Q x) → (xs : List X) → Each P xs → Each Q xs
each_weaker P Q f [] h = tt
each_weaker P Q f (x ∷ xs) h = (f x h.0, each_weaker P Q f xs h.1)

pub each_both : {X : Type 0} (P Q : X → Type 0) (xs : List X) → Each P xs → Each Q xs → Each (λ x. P x × Q x) xs
each_both P Q [] h k = tt
each_both P Q (x ∷ xs) h k = ((h.0, k.0), each_both P Q xs h.1 k.1)

pub each_append : {X : Type 0} (P : X → Type 0) (xs ys : List X) → Each P xs → Each P ys → Each P (xs ++ ys)
each_append P [] ys h k = k
each_append P (x ∷ xs) ys h k = (h.0, each_append P xs ys h.1 k)

pub each_reverse : {X : Type 0} (P : X → Type 0) (xs : List X) → Each P xs → Each P (reverse xs)
each_reverse P [] h = tt
each_reverse P (x ∷ xs) h =
    subst (λ ys. Each P ys) (sym (reverse-append (x ∷ []) xs)) (each_append P (reverse xs) (x ∷ []) (each_reverse P xs h.1) (h.0, tt))

pub each_take : {X : Type 0} (P : X → Type 0) (n : ℕ) (xs : List X) → Each P xs → Each P (take n xs)
each_take P zero xs h = tt
each_take P (suc n) [] h = tt
each_take P (suc n) (x ∷ xs) h = (h.0, each_take P n xs h.1)

-- ---- each, and all by their places

pub each_all : {X : Type 0} (P : X → Type 0) (xs : List X) → Each P xs → All P xs
each_all P [] h = λ k d low. absurd (omega arith)
each_all {X} P (x ∷ xs) h = λ k d low. at k d low (each_all P xs h.1)
  where
    at : (k : ℕ) (d : X) → k < length (x ∷ xs) → All P xs → P (slice_index_or (x ∷ xs) k d)
    at zero d low rest = h.0
    at (suc k) d low rest = rest k d (omega arith)

pub all_each : {X : Type 0} (P : X → Type 0) (xs : List X) → All P xs → Each P xs
all_each P [] h = tt
all_each P (x ∷ xs) h = (h 0 x (omega arith), all_each P xs (λ k d low. h (suc k) d (omega arith)))

-- ---- from each to one

pub among_each : {X : Type 0} (P : X → Type 0) (xs : List X) (x : X) → Each P xs → IsAmong x xs → P x
among_each P [] x all there = absurd there
among_each {X = X} P (y ∷ ys) x all (inl same) = subst (λ (z : X). P z) (sym same) all.0
among_each P (y ∷ ys) x all (inr there) = among_each P ys x all.1 there

pub each_at : {X : Type 0} (P : X → Type 0) (xs : List X) (i : ℕ) (x : X) → Each P xs → slice_get xs i ≡ Some x → P x
each_at P [] i x all h = absurd (let e : None ≡ Some x = h in cc)
each_at {X = X} P (y ∷ ys) zero x all h = subst (λ (z : X). P z) (same_Some y x h) all.0
each_at P (y ∷ ys) (suc i) x all h = each_at P ys i x all.1 h

-- ---- what is found for each

pub found_same : {X Y : Type 0} (f g : X → Option Y) (xs : List X) → Each (λ x. f x ≡ g x) xs → filter_map f xs ≡ filter_map g xs
found_same f g [] h = refl
found_same f g (x ∷ xs) h =
    ap (λ o. cons_option o (filter_map f xs)) h.0 ∙ ap (λ ys. cons_option (g x) ys) (found_same f g xs h.1)

-- what is found for each is as much as there is
pub all_found : {X Y : Type 0} (f : X → Option Y) (xs : List X) → Each (λ x. is_some (f x) ≡ true) xs
    → length (filter_map f xs) ≡ length xs
all_found f [] there = refl
all_found {X = X} {Y = Y} f (x ∷ xs) there = by (f x) there.0 (all_found f xs there.1)
  where
    by : (o : Option Y) → is_some o ≡ true → length (filter_map f xs) ≡ length xs
        → length (cons_option o (filter_map f xs)) ≡ length (x ∷ xs)
    by None is rest = absurd (let e : false ≡ true = is in cc)
    by (Some y) is rest = omega arith
