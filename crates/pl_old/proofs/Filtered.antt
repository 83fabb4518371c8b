-- A test over what passes another one.
use Rattle.std.proofs.Common.{◌≡◌, ◌∙◌, Bool, true, false, ◌&&◌, ◌||◌, if◌then◌else◌, List, [], ◌∷◌, filter, refl, sym, ap}
use Rattle.std.specs.List.{list_any}

one_filtered : {X : Type 0} (first second : X → Bool) (x : X) (xs : List X) (passes : Bool) → first x ≡ passes
    → list_any second (filter first xs) ≡ list_any (λ y. first y && second y) xs
    → list_any second (if first x then x ∷ filter first xs else filter first xs)
    ≡ ((first x && second x) || list_any (λ y. first y && second y) xs)
one_filtered first second x xs true is rest =
    ap (λ (b : Bool). list_any second (if b then x ∷ filter first xs else filter first xs)) is
    ∙ ap (λ (b : Bool). second x || b) rest
    ∙ ap (λ (b : Bool). (b && second x) || list_any (λ y. first y && second y) xs) (sym is)
one_filtered first second x xs false is rest =
    ap (λ (b : Bool). list_any second (if b then x ∷ filter first xs else filter first xs)) is
    ∙ rest
    ∙ ap (λ (b : Bool). (b && second x) || list_any (λ y. first y && second y) xs) (sym is)

pub any_filtered : {X : Type 0} (first second : X → Bool) (xs : List X)
    → list_any second (filter first xs) ≡ list_any (λ x. first x && second x) xs
any_filtered first second [] = refl
any_filtered first second (x ∷ xs) = one_filtered first second x xs (first x) refl (any_filtered first second xs)
