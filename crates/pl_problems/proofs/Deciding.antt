-- What is found for each thing of a list that stands newest first, from a number on.
use Rattle.std.proofs.Common.{◌≡◌, ◌≤◌, ◌<◌, ◌-◌, ℕ, zero, suc, List, [], ◌∷◌, ◌++◌, length, reverse, take, drop, filter_map, Option, Some, None, option_and_then, inl, inr, ◌⊎◌, refl, sym, ap, subst, ◌∙◌, arith}
use Rattle.std.proofs.Math.ListN.{drop_of_length-le}
use Rattle.std.proofs.lemmas.Bool.{cases_lt}
use Rattle.std.proofs.lemmas.List.{append-nil, append_assoc, drop_at, length-drop, length-reverse, reverse-append, take-append-drop}
use Rattle.std.specs.List.{cons_option, slice_get}
use Rattle.pl_lemmas.specs.Words.{numbered, option_list}
use Rattle.pl_lemmas.proofs.Numbered.{numbered_turned}

-- ---- the steps

cons_list : {Y : Type 0} (o : Option Y) (ys : List Y) → cons_option o ys ≡ option_list o ++ ys
cons_list None ys = refl
cons_list (Some y) ys = refl

found_each : {X Y : Type 0} (f : X → Option Y) (ys : List X) (k : ℕ)
    → filter_map f (drop k ys) ≡ option_list (option_and_then f (slice_get ys k)) ++ filter_map f (drop (suc k) ys)
found_each f [] zero = refl
found_each f [] (suc k) = refl
found_each f (y ∷ ys) zero = cons_list (f y) (filter_map f ys)
found_each f (y ∷ ys) (suc k) = found_each f ys k

-- what is still to be found, with what was found so far
abbrev pub with_rest : {X Y : Type 0} (f : X → Option Y) (xs : List X) (k : ℕ) (made : List Y) → List Y
with_rest f xs k made = made ++ filter_map f (drop k (reverse xs))

pub step : {X Y : Type 0} (f : X → Option Y) (xs : List X) (k next : ℕ) (made more : List Y) (found : Option Y) → next ≡ suc k
    → found ≡ option_and_then f (numbered xs k) → more ≡ made ++ option_list found
    → with_rest f xs next more ≡ with_rest f xs k made
step {X = X} {Y = Y} f xs k next made more found is_next is added =
    (λ i. with_rest f xs (is_next i) (added i))
    ∙ append_assoc made (option_list found) (filter_map f (drop (suc k) (reverse xs)))
    ∙ ap (λ (later : List Y). made ++ later)
    ((λ i. option_list (is i) ++ filter_map f (drop (suc k) (reverse xs)))
    ∙ ap (λ (o : Option X). option_list (option_and_then f o) ++ filter_map f (drop (suc k) (reverse xs))) (sym (numbered_turned xs k))
    ∙ sym (found_each f (reverse xs) k))

since : {X : Type 0} (xs : List X) (before : ℕ) → drop before (reverse xs) ≡ reverse (take (length xs - before) xs)
since {X = X} xs before = by (cases_lt (length xs) before)
  where
    by : (length xs < before) ⊎ (before ≤ length xs) → drop before (reverse xs) ≡ reverse (take (length xs - before) xs)
    by (inl past) =
        let none : length xs - before ≡ 0 = omega arith in
        let end : length (reverse xs) ≤ before = subst (λ (n : ℕ). n ≤ before) (sym (length-reverse xs)) (omega arith) in
        drop_of_length-le (reverse xs) end ∙ ap (λ (n : ℕ). reverse (take n xs)) (sym none)
    by (inr within) =
        let split : reverse xs ≡ reverse (drop (length xs - before) xs) ++ reverse (take (length xs - before) xs) =
        ap (λ (ys : List X). reverse ys) (sym (take-append-drop (length xs - before) xs))
        ∙ reverse-append (take (length xs - before) xs) (drop (length xs - before) xs) in
        let rest : length xs - (length xs - before) ≡ before = omega arith in
        let count : length (reverse (drop (length xs - before) xs)) ≡ before =
        length-reverse (drop (length xs - before) xs) ∙ length-drop (length xs - before) xs ∙ rest in
        ap (λ (ys : List X). drop before ys) split
        ∙ drop_at (reverse (drop (length xs - before) xs)) (reverse (take (length xs - before) xs)) before count

-- at the end nothing is still to be found
pub ends : {X Y : Type 0} (f : X → Option Y) (xs : List X) (before k : ℕ) (made : List Y) → length xs ≤ k
    → with_rest f xs k made ≡ filter_map f (drop before (reverse xs))
    → made ≡ filter_map f (reverse (take (length xs - before) xs))
ends {X = X} {Y = Y} f xs before k made past is =
    let end : length (reverse xs) ≤ k = subst (λ (n : ℕ). n ≤ k) (sym (length-reverse xs)) past in
    sym (append-nil made)
    ∙ ap (λ (ys : List X). made ++ filter_map f ys) (sym (drop_of_length-le (reverse xs) end))
    ∙ is ∙ ap (λ (ys : List X). filter_map f ys) (since xs before)

-- past the last number
pub past_end : {k end count : ℕ} → end ≡ count → end ≤ k → count ≤ k
past_end {k = k} is past = subst (λ (n : ℕ). n ≤ k) is past
