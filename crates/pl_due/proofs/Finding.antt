-- What is found first: in ranges that fall, in lists that are put together, and among several made of each number.
use Rattle.std.proofs.Common.{◌≡◌, ℕ, suc, ◌+◌, ◌-◌, ◌<◌, Bool, true, false, ◌||◌, cond, if◌then◌else◌, List, [], ◌∷◌, ◌++◌, find, map, reverse, Option, Some, None, option_map, refl, sym, ◌∙◌, ap, ap₂, subst, arith}
use Rattle.std.proofs.lemmas.List.{reverse-append}
use Rattle.std.proofs.lemmas.Option.{none-some, same_Some}
use Rattle.std.specs.List.{flat_map, range_with_len}
use Rattle.std.specs.Option.{option_or}
use Rattle.pl_lemmas.proofs.Numbers.{range_find_none, range_find_some, range_more}

-- nothing is found where none passes
pub nothing_found : {X : Type 0} (xs : List X) → find (λ x. false) xs ≡ None
nothing_found [] = refl
nothing_found (x ∷ xs) = nothing_found xs

-- what is found passes
pub found_passes : {X : Type 0} (p : X → Bool) (xs : List X) (one : X) → find p xs ≡ Some one → p one ≡ true
found_passes p [] one h = absurd (none-some one h)
found_passes {X = X} p (x ∷ xs) one h = by (p x) refl h (found_passes p xs one)
  where
    by : (b : Bool) → p x ≡ b → cond b (Some x) (find p xs) ≡ Some one → (find p xs ≡ Some one → p one ≡ true) → p one ≡ true
    by true is h rest = ap p (sym (same_Some x one h)) ∙ is
    by false is h rest = rest h

-- tests that agree find the same
pub found_same : {X : Type 0} (p q : X → Bool) → ((x : X) → p x ≡ q x) → (xs : List X) → find p xs ≡ find q xs
found_same p q same [] = refl
found_same {X = X} p q same (x ∷ xs) =
    ap₂ (λ (b : Bool) (o : Option X). cond b (Some x) o) (same x) (found_same p q same xs)

-- ---- ranges that fall

-- the greatest number first
pub find_falling : (p : ℕ → Bool) (n : ℕ)
    → find p (reverse (range_with_len 0 (n + 1))) ≡ cond (p n) (Some n) (find p (reverse (range_with_len 0 n)))
find_falling p n =
    ap (λ (count : ℕ). find p (reverse (range_with_len 0 count))) (let e : n + 1 ≡ suc n = omega arith in e)
    ∙ ap (λ (numbers : List ℕ). find p (reverse numbers)) (range_more 0 n)
    ∙ ap (λ (numbers : List ℕ). find p numbers) (reverse-append (range_with_len 0 n) ((0 + n) ∷ []))
    ∙ ap (λ (number : ℕ). cond (p number) (Some number) (find p (reverse (range_with_len 0 n)))) (let e : 0 + n ≡ n = omega arith in e)

last_of : (p : ℕ → Bool) (left : ℕ) → 0 < left
    → find p (reverse (range_with_len 0 left)) ≡ cond (p (left - 1)) (Some (left - 1)) (find p (reverse (range_with_len 0 (left - 1))))
last_of p left more =
    ap (λ (count : ℕ). find p (reverse (range_with_len 0 count))) (let e : left ≡ (left - 1) + 1 = omega arith in e)
    ∙ find_falling p (left - 1)

-- the last one passes, and is found first
pub falling_found : (p : ℕ → Bool) (left : ℕ) → 0 < left → p (left - 1) ≡ true → find p (reverse (range_with_len 0 left)) ≡ Some (left - 1)
falling_found p left more passes =
    last_of p left more ∙ ap (λ (b : Bool). cond b (Some (left - 1)) (find p (reverse (range_with_len 0 (left - 1))))) passes

-- it does not pass
pub falling_missed : (p : ℕ → Bool) (left : ℕ) → 0 < left → p (left - 1) ≡ false
    → find p (reverse (range_with_len 0 left)) ≡ find p (reverse (range_with_len 0 (left - 1)))
falling_missed p left more fails =
    last_of p left more ∙ ap (λ (b : Bool). cond b (Some (left - 1)) (find p (reverse (range_with_len 0 (left - 1))))) fails

-- ---- lists that are put together

-- in the first list, or else in the second
pub find_append : {X : Type 0} (p : X → Bool) (xs ys : List X) → find p (xs ++ ys) ≡ option_or (find p xs) (find p ys)
find_append p [] ys = refl
find_append {X = X} p (x ∷ xs) ys = by (p x) (find_append p xs ys)
  where
    by : (b : Bool) → find p (xs ++ ys) ≡ option_or (find p xs) (find p ys)
        → cond b (Some x) (find p (xs ++ ys)) ≡ option_or (cond b (Some x) (find p xs)) (find p ys)
    by true rest = refl
    by false rest = rest

pub find_mapped : {X Y : Type 0} (p : Y → Bool) (f : X → Y) (xs : List X) → find p (map f xs) ≡ option_map f (find (λ x. p (f x)) xs)
find_mapped p f [] = refl
find_mapped {X = X} {Y = Y} p f (x ∷ xs) = by (p (f x)) (find_mapped p f xs)
  where
    by : (b : Bool) → find p (map f xs) ≡ option_map f (find (λ x. p (f x)) xs)
        → cond b (Some (f x)) (find p (map f xs)) ≡ option_map f (cond b (Some x) (find (λ x. p (f x)) xs))
    by true rest = refl
    by false rest = rest

-- the first of two that are made of each
pub find_two : {N X : Type 0} (p : X → Bool) (f g : N → X) (ns : List N)
    → find p (flat_map (λ n. f n ∷ g n ∷ []) ns)
    ≡ option_map (λ n. if p (f n) then f n else g n) (find (λ n. p (f n) || p (g n)) ns)
find_two p f g [] = refl
find_two {N = N} {X = X} p f g (n ∷ ns) = by (p (f n)) refl (p (g n)) (find_two p f g ns)
  where
    pick : N → X
    pick n = if p (f n) then f n else g n

    by : (a : Bool) → p (f n) ≡ a → (b : Bool)
        → find p (flat_map (λ n. f n ∷ g n ∷ []) ns) ≡ option_map pick (find (λ n. p (f n) || p (g n)) ns)
        → cond a (Some (f n)) (cond b (Some (g n)) (find p (flat_map (λ n. f n ∷ g n ∷ []) ns)))
        ≡ option_map pick (cond (a || b) (Some n) (find (λ n. p (f n) || p (g n)) ns))
    by true is b rest = ap (λ (b : Bool). Some (if b then f n else g n)) (sym is)
    by false is true rest = ap (λ (b : Bool). Some (if b then f n else g n)) (sym is)
    by false is false rest = rest

-- and of three
pub find_three : {N X : Type 0} (p : X → Bool) (f g h : N → X) (ns : List N)
    → find p (flat_map (λ n. f n ∷ g n ∷ h n ∷ []) ns)
    ≡ option_map (λ n. if p (f n) then f n else (if p (g n) then g n else h n)) (find (λ n. p (f n) || p (g n) || p (h n)) ns)
find_three p f g h [] = refl
find_three {N = N} {X = X} p f g h (n ∷ ns) = by (p (f n)) refl (p (g n)) refl (p (h n)) (find_three p f g h ns)
  where
    pick : N → X
    pick n = if p (f n) then f n else (if p (g n) then g n else h n)

    by : (a : Bool) → p (f n) ≡ a → (b : Bool) → p (g n) ≡ b → (c : Bool)
        → find p (flat_map (λ n. f n ∷ g n ∷ h n ∷ []) ns) ≡ option_map pick (find (λ n. p (f n) || p (g n) || p (h n)) ns)
        → cond a (Some (f n)) (cond b (Some (g n)) (cond c (Some (h n)) (find p (flat_map (λ n. f n ∷ g n ∷ h n ∷ []) ns))))
        ≡ option_map pick (cond (a || b || c) (Some n) (find (λ n. p (f n) || p (g n) || p (h n)) ns))
    by true is b is_b c rest = ap (λ (b : Bool). Some (if b then f n else (if p (g n) then g n else h n))) (sym is)
    by false is true is_b c rest = ap₂ (λ (a b : Bool). Some (if a then f n else (if b then g n else h n))) (sym is) (sym is_b)
    by false is false is_b true rest = ap₂ (λ (a b : Bool). Some (if a then f n else (if b then g n else h n))) (sym is) (sym is_b)
    by false is false is_b false rest = rest

-- what is found in the first list is found in both
pub first_of : {X : Type 0} (p : X → Bool) (xs ys : List X) (x : X) → Some x ≡ find p xs → Some x ≡ find p (xs ++ ys)
first_of {X = X} p xs ys x found = ap (λ (o : Option X). option_or o (find p ys)) found ∙ sym (find_append p xs ys)

-- where nothing is in the first, what is found in the second is found in both
pub second_of : {X : Type 0} (p : X → Bool) (xs ys : List X) (o : Option X) → None ≡ find p xs → o ≡ find p ys → o ≡ find p (xs ++ ys)
second_of {X = X} p xs ys o none found =
    found ∙ ap (λ (o : Option X). option_or o (find p ys)) none ∙ sym (find_append p xs ys)

-- ---- ranges

-- the first number of a range that passes, where none below it does
pub range_first : (p : ℕ → Bool) (n place : ℕ) → place < n → ((k : ℕ) → k < place → p k ≡ false) → p place ≡ true
    → Some place ≡ find p (range_with_len 0 n)
range_first p n place within fails passes =
    ap (λ (k : ℕ). Some k) (let e : place ≡ 0 + place = omega arith in e)
    ∙ sym (range_find_some p 0 n place within
    (λ k below. subst (λ (j : ℕ). p j ≡ false) (let e : k ≡ 0 + k = omega arith in e) (fails k below))
    (subst (λ (j : ℕ). p j ≡ true) (let e : place ≡ 0 + place = omega arith in e) passes))

-- where none passes
pub range_none : (p : ℕ → Bool) (n : ℕ) → ((k : ℕ) → k < n → p k ≡ false) → None ≡ find p (range_with_len 0 n)
range_none p n fails =
    sym (range_find_none p 0 n
    (λ k below. subst (λ (j : ℕ). p j ≡ false) (let e : k ≡ 0 + k = omega arith in e) (fails k below)))
