-- Folds over what is made of a range, and tests over lists that are put together.
use Rattle.std.proofs.Common.{◌≡◌, ℕ, suc, ◌+◌, Bool, true, false, ◌||◌, List, [], ◌∷◌, ◌++◌, map, reverse, refl, sym, ◌∙◌, ap, ap₂, arith}
use Rattle.std.proofs.lemmas.List.Folds.{list_any-append}
use Rattle.std.proofs.lemmas.List.Sums.{fold-append}
use Rattle.std.specs.List.{flat_map, fold, list_any, range_with_len}
use Rattle.pl_lemmas.proofs.Lists.{any_mapped, any_reversed}
use Rattle.pl_lemmas.proofs.Numbers.{range_more}

map_end : {X Y : Type 0} (g : X → Y) (xs : List X) (x : X) → map g (xs ++ x ∷ []) ≡ map g xs ++ g x ∷ []
map_end g [] x = refl
map_end g (y ∷ ys) x = ap (λ (zs : List _). g y ∷ zs) (map_end g ys x)

-- one number more
pub fold_more : {A B : Type 0} (f : B → A → B) (b : B) (g : ℕ → A) (n : ℕ)
    → fold f b (map g (range_with_len 0 (n + 1))) ≡ f (fold f b (map g (range_with_len 0 n))) (g n)
fold_more {A = A} f b g n =
    ap (λ (count : ℕ). fold f b (map g (range_with_len 0 count))) (let e : n + 1 ≡ suc n = omega arith in e)
    ∙ ap (λ (numbers : List ℕ). fold f b (map g numbers)) (range_more 0 n)
    ∙ ap (λ (made : List A). fold f b made) (map_end g (range_with_len 0 n) (0 + n))
    ∙ fold-append f b (map g (range_with_len 0 n)) (g (0 + n) ∷ [])
    ∙ ap (λ (number : ℕ). f (fold f b (map g (range_with_len 0 n))) (g number)) (let e : 0 + n ≡ n = omega arith in e)

-- ---- what some pass

pub any_pair : {X : Type 0} (p : X → Bool) (xs xs' ys ys' : List X) → list_any p xs ≡ list_any p xs' → list_any p ys ≡ list_any p ys'
    → list_any p (xs ++ ys) ≡ list_any p (xs' ++ ys')
any_pair p xs xs' ys ys' first second =
    list_any-append p xs ys ∙ ap₂ (λ (a b : Bool). a || b) first second ∙ sym (list_any-append p xs' ys')

two_turned : (a b aa bb : Bool) → ((a || aa) || (b || bb)) ≡ (a || (b || (aa || bb)))
two_turned true b aa bb = refl
two_turned false true true bb = refl
two_turned false true false bb = refl
two_turned false false aa bb = refl

pub any_two : {N X : Type 0} (p : X → Bool) (f g : N → X) (ns : List N)
    → list_any p (map f ns ++ map g ns) ≡ list_any p (flat_map (λ n. f n ∷ g n ∷ []) ns)
any_two p f g ns = list_any-append p (map f ns) (map g ns) ∙ each ns
  where
    each : (ns : List _) → (list_any p (map f ns) || list_any p (map g ns)) ≡ list_any p (flat_map (λ n. f n ∷ g n ∷ []) ns)
    each [] = refl
    each (n ∷ ns) =
        two_turned (p (f n)) (p (g n)) (list_any p (map f ns)) (list_any p (map g ns))
        ∙ ap (λ (b : Bool). p (f n) || (p (g n) || b)) (each ns)

three_turned : (a b c aa bb dd : Bool) → ((a || aa) || ((b || bb) || (c || dd))) ≡ (a || (b || (c || (aa || (bb || dd)))))
three_turned true b c aa bb dd = refl
three_turned false true c true bb dd = refl
three_turned false true c false bb dd = refl
three_turned false false true true bb dd = refl
three_turned false false true false true dd = refl
three_turned false false true false false dd = refl
three_turned false false false aa bb dd = refl

pub any_three : {N X : Type 0} (p : X → Bool) (f g h : N → X) (ns : List N)
    → list_any p (map f ns ++ (map g ns ++ map h ns)) ≡ list_any p (flat_map (λ n. f n ∷ g n ∷ h n ∷ []) ns)
any_three p f g h ns =
    list_any-append p (map f ns) (map g ns ++ map h ns)
    ∙ ap (λ (b : Bool). list_any p (map f ns) || b) (list_any-append p (map g ns) (map h ns))
    ∙ each ns
  where
    each : (ns : List _) → (list_any p (map f ns) || (list_any p (map g ns) || list_any p (map h ns)))
        ≡ list_any p (flat_map (λ n. f n ∷ g n ∷ h n ∷ []) ns)
    each [] = refl
    each (n ∷ ns) =
        three_turned (p (f n)) (p (g n)) (p (h n)) (list_any p (map f ns)) (list_any p (map g ns)) (list_any p (map h ns))
        ∙ ap (λ (b : Bool). p (f n) || (p (g n) || (p (h n) || b))) (each ns)

pub any_falling : {X : Type 0} (p : X → Bool) (f : ℕ → X) (ns : List ℕ) → list_any p (map f ns) ≡ list_any p (map f (reverse ns))
any_falling p f ns =
    any_mapped p f ns ∙ sym (any_reversed (λ n. p (f n)) ns) ∙ sym (any_mapped p f (reverse ns))
