-- The rows of a chain that pass a test, and lists of the rows that do.
use Rattle.std.proofs.Common.{◌≡◌, ◌<◌, ◌+◌, ℕ, Bool, ◌&&◌, ◌||◌, not, nat_lt, cond, List, [], ◌∷◌, ◌++◌, length, take, drop, get_or, Option, Some, None, option_map, refl, sym, ap, ap₂, ◌∙◌, append_assoc, inl, inr}
use Rattle.std.proofs.lemmas.List.{drop_more, take-append-drop, take_more}
use Rattle.std.proofs.lemmas.List.Elements.{filter_map-append}
use Rattle.std.proofs.lemmas.List.Folds.{find-append}
use Rattle.std.proofs.lemmas.Option.{slice_get_cases}
use Rattle.std.specs.List.{cons_option, find, slice_get}
use Rattle.std.specs.Option.{option_or}
use Rattle.pl_chain.specs.Claimed.{is_in}
use Rattle.pl_lemmas.proofs.Options.{mapped_or}
use Rattle.pl_state.specs.Chain.{first_protected, goes_along, rows_at}
use Rattle.pl_state.specs.declared.entry.Entry.{Entry}

-- ---- the first row that passes a test

-- the first of the rows at these places that passes
abbrev pub first_at : (ℕ × Entry → Bool) → List Entry → List ℕ → Option Entry
first_at test rows places = option_map (λ row. row.1) (find test (rows_at rows places))

first_append : (test : ℕ × Entry → Bool) (rows : List Entry) (xs ys : List ℕ)
    → first_at test rows (xs ++ ys) ≡ option_or (first_at test rows xs) (first_at test rows ys)
first_append test rows xs ys =
    ap (λ (l : List (ℕ × Entry)). option_map (λ (row : ℕ × Entry). row.1) (find test l))
    (filter_map-append (λ place. option_map (λ row. (place, row)) (slice_get rows place)) xs ys)
    ∙ ap (option_map (λ (row : ℕ × Entry). row.1)) (find-append test (rows_at rows xs) (rows_at rows ys))
    ∙ mapped_or (λ (row : ℕ × Entry). row.1) (find test (rows_at rows xs)) (find test (rows_at rows ys))

-- no row passes with one place more
pub first_more : (test : ℕ × Entry → Bool) (rows : List Entry) (places : List ℕ) (i : ℕ) → i < length places
    → first_at test rows (take i places) ≡ None → None ≡ first_at test rows (get_or places i 0 ∷ [])
    → first_at test rows (take (i + 1) places) ≡ None
first_more test rows places i inside before here =
    ap (first_at test rows) (take_more places i 0 inside)
    ∙ first_append test rows (take i places) (get_or places i 0 ∷ [])
    ∙ ap₂ option_or before (sym here)

-- a row that passes is the first where none before it does
pub first_found : (test : ℕ × Entry → Bool) (rows : List Entry) (places : List ℕ) (i : ℕ) (row : Entry) → i < length places
    → first_at test rows (take i places) ≡ None → Some row ≡ first_at test rows (get_or places i 0 ∷ [])
    → Some row ≡ first_at test rows places
first_found test rows places i row inside before here =
    let place : ℕ = get_or places i 0 in
    let rest : List ℕ = drop (i + 1) places in
    let parts : places ≡ take i places ++ (place ∷ []) ++ rest =
    sym (take-append-drop i places) ∙ ap (λ (l : List ℕ). take i places ++ l) (drop_more places i 0 inside)
    ∙ sym (append_assoc (take i places) (place ∷ []) rest) in
    sym (ap (first_at test rows) parts
    ∙ first_append test rows (take i places ++ (place ∷ [])) rest
    ∙ ap (λ (o : Option Entry). option_or o (first_at test rows rest))
    (first_append test rows (take i places) (place ∷ []) ∙ ap₂ option_or before (sym here)))

-- ---- tests that agree on rows

find_same : (p q : ℕ × Entry → Bool) (rows : List Entry) → ((place : ℕ) (row : Entry) → place < length rows → p (place, row) ≡ q (place, row))
    → (places : List ℕ) → find p (rows_at rows places) ≡ find q (rows_at rows places)
find_same p q rows agree [] = refl
find_same p q rows agree (place ∷ places) = elim ((slice_get_cases rows place).1) [
  | inl there ↦ by (slice_get rows place) there.0 there.2 there.1 (find_same p q rows agree places)
  | inr beyond ↦ past (slice_get rows place) beyond.1 (find_same p q rows agree places)
]
  where
    by : (o : Option Entry) (row : Entry) → o ≡ Some row → place < length rows
        → find p (rows_at rows places) ≡ find q (rows_at rows places)
        → find p (cons_option (option_map (λ row. (place, row)) o) (rows_at rows places))
        ≡ find q (cons_option (option_map (λ row. (place, row)) o) (rows_at rows places))
    by None row is low rest = rest
    by (Some own) row is low rest =
        ap (λ (b : Bool). cond b (Some (place, own)) (find p (rows_at rows places))) (agree place own low)
        ∙ ap (λ (o : Option (ℕ × Entry)). cond (q (place, own)) (Some (place, own)) o) rest

    past : (o : Option Entry) → o ≡ None → find p (rows_at rows places) ≡ find q (rows_at rows places)
        → find p (cons_option (option_map (λ row. (place, row)) o) (rows_at rows places))
        ≡ find q (cons_option (option_map (λ row. (place, row)) o) (rows_at rows places))
    past None is rest = rest
    past (Some own) is rest = absurd (let e : Some own ≡ None = is in cc)

-- the first protected row is the same where the same rows are claimed
pub protected_same : (p q : ℕ → Bool) (rows : List Entry) → ((row : ℕ) → row < length rows → p row ≡ q row) → (places : List ℕ)
    → first_protected p (rows_at rows places) ≡ first_protected q (rows_at rows places)
protected_same p q rows agree places =
    ap (option_map (λ (row : ℕ × Entry). row.1))
    (find_same (λ row. goes_along p row && row.1.protect) (λ row. goes_along q row && row.1.protect) rows
    (λ place row low. ap (λ (b : Bool). (row.doomed || not b) && row.protect) (agree place low)) places)

-- ---- the rows that pass a test, in a list

-- the numbers below a bound that pass are those of a list
abbrev pub Lists : (ℕ → Bool) → ℕ → List ℕ → Type 0
Lists test bound numbers = (k : ℕ) → is_in numbers k ≡ (nat_lt k bound && test k)
