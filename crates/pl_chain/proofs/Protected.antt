-- The first protected row of a chain, place by place.
use Rattle.std.proofs.Common.{◌≡◌, ◌<◌, ◌+◌, ◌&&◌, ℕ, Bool, List, [], ◌∷◌, ◌++◌, length, take, get_or, refl, sym, ap, ap₂, ◌∙◌, Option, Some, None, append_assoc, drop}
use Rattle.std.proofs.lemmas.List.{drop_more, take-append-drop, take_more}
use Rattle.std.proofs.lemmas.List.Elements.{filter_map-append}
use Rattle.std.proofs.lemmas.List.Folds.{find-append}
use Rattle.std.specs.List.{find, slice_get}
use Rattle.std.specs.Option.{option_map, option_or}
use Rattle.pl_lemmas.proofs.Options.{mapped_or}
use Rattle.pl_state.specs.Chain.{first_protected, goes_along, rows_at}
use Rattle.pl_state.specs.declared.entry.Entry.{Entry}

abbrev protected_row : (ℕ → Bool) → ℕ × Entry → Bool
protected_row claims row = goes_along claims row && row.1.protect

-- the first protected row of two chains, one behind the other
pub first_protected-append : (claims : ℕ → Bool) (rows : List Entry) (xs ys : List ℕ) → first_protected claims (rows_at rows (xs ++ ys)) ≡ option_or (first_protected claims (rows_at rows xs)) (first_protected claims (rows_at rows ys))
first_protected-append claims rows xs ys =
    ap (λ (l : List (ℕ × Entry)). first_protected claims l) (filter_map-append (λ place. option_map (λ row. (place, row)) (slice_get rows place)) xs ys)
    ∙ ap (option_map (λ row. row.1)) (find-append (protected_row claims) (rows_at rows xs) (rows_at rows ys))
    ∙ mapped_or (λ row. row.1) (find (protected_row claims) (rows_at rows xs)) (find (protected_row claims) (rows_at rows ys))

-- the first protected row of a chain with one place more
pub first_protected-more : (claims : ℕ → Bool) (rows : List Entry) (places : List ℕ) (i : ℕ) → i < length places → first_protected claims (rows_at rows (take i places)) ≡ None → None ≡ first_protected claims (rows_at rows (get_or places i 0 ∷ [])) → first_protected claims (rows_at rows (take (i + 1) places)) ≡ None
first_protected-more claims rows places i inside before here =
    ap (λ (l : List ℕ). first_protected claims (rows_at rows l)) (take_more places i 0 inside)
    ∙ first_protected-append claims rows (take i places) (get_or places i 0 ∷ [])
    ∙ ap₂ option_or before (sym here)

-- a protected row is the first where none is before it
pub first_protected-found : (claims : ℕ → Bool) (rows : List Entry) (places : List ℕ) (i : ℕ) (row : Entry) → i < length places → first_protected claims (rows_at rows (take i places)) ≡ None → Some row ≡ first_protected claims (rows_at rows (get_or places i 0 ∷ [])) → Some row ≡ first_protected claims (rows_at rows places)
first_protected-found claims rows places i row inside before here =
    let place : ℕ = get_or places i 0 in
    let rest : List ℕ = drop (i + 1) places in
    let parts : places ≡ take i places ++ (place ∷ []) ++ rest = sym (take-append-drop i places) ∙ ap (λ (l : List ℕ). take i places ++ l) (drop_more places i 0 inside) ∙ sym (append_assoc (take i places) (place ∷ []) rest) in
    sym (ap (λ (l : List ℕ). first_protected claims (rows_at rows l)) parts
    ∙ first_protected-append claims rows (take i places ++ (place ∷ [])) rest
    ∙ ap (λ (o : Option Entry). option_or o (first_protected claims (rows_at rows rest)))
    (first_protected-append claims rows (take i places) (place ∷ []) ∙ ap₂ option_or before (sym here)))
