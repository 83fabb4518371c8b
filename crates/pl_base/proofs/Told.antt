-- What is told of each row, as far as a walk has come, and looked up.
use Rattle.std.proofs.Common.{◌≡◌, ◌<◌, ◌≤◌, ◌+◌, ℕ, List, [], ◌∷◌, ◌++◌, length, map, take, get_or, Option, Some, None, option_map, option_and_then, refl, sym, ap, ◌∙◌, inl, inr, arith}
use Rattle.std.proofs.lemmas.Bool.{cases_lt}
use Rattle.std.proofs.lemmas.List.{take_more}
use Rattle.std.proofs.lemmas.List.FromFn.{get_or-range_with_len, length-range_with_len, map-range_with_len_more}
use Rattle.std.proofs.lemmas.Option.{slice_get-map, slice_get_past, slice_get_read}
use Rattle.std.specs.List.{range_with_len, slice_get}
use Rattle.pl_state.specs.declared.entry.Entry.{Entry}
use Rattle.pl_state.specs.Chain.{deleter_row_of, last_of_urn, last_provider, provider_row_of}
use Rattle.pl_base.specs.Rows.{of_rows}

-- the first rows, with one more
pub rows_more : (rows : List Entry) (i : ℕ) (row : Entry) → i < length rows → row ≡ get_or rows i row
    → take (i + 1) rows ≡ take i rows ++ row ∷ []
rows_more rows i row inside is = take_more rows i row inside ∙ ap (λ (last : Entry). take i rows ++ last ∷ []) (sym is)

-- one row more is told
pub told_more : {X : Type 0} (says : ℕ → X) (told now : List X) (i : ℕ) (x : X) → told ≡ map says (range_with_len 0 i)
    → now ≡ told ++ x ∷ [] → x ≡ says i → now ≡ map says (range_with_len 0 (i + 1))
told_more says told now i x before pushed here =
    let place : 0 + i ≡ i = omega arith in
    pushed ∙ (λ k. before k ++ here k ∷ []) ∙ sym (map-range_with_len_more says 0 i i place)

-- a place of a range has itself
pub range_low : (count place : ℕ) → place < count → slice_get (range_with_len 0 count) place ≡ Some place
range_low count place low =
    let long : count ≡ length (range_with_len 0 count) = sym (length-range_with_len 0 count) in
    let same : 0 + place ≡ place = omega arith in
    slice_get_read (range_with_len 0 count) count place place long low
    (sym (get_or-range_with_len 0 count place place low ∙ same))

pub range_past : (count place : ℕ) → count ≤ place → slice_get (range_with_len 0 count) place ≡ None
range_past count place high =
    let long : length (range_with_len 0 count) ≡ count = length-range_with_len 0 count in
    slice_get_past (range_with_len 0 count) place (omega arith)

-- what is told of a row, looked up; past the rows a definition says nothing
pub row_told : (says : ℕ → Option ℕ) (rows : List Entry) → ((place : ℕ) → slice_get rows place ≡ None → says place ≡ None) → (place : ℕ)
    → option_and_then (λ one. one) (slice_get (of_rows says rows) place) ≡ says place
row_told says rows past place =
    ap (option_and_then (λ one. one)) (slice_get-map says (range_with_len 0 (length rows)) place)
    ∙ elim (cases_lt place (length rows)) [
      | inl low ↦ ap (λ (o : Option ℕ). option_and_then (λ one. one) (option_map says o)) (range_low (length rows) place low)
      | inr high ↦
          ap (λ (o : Option ℕ). option_and_then (λ one. one) (option_map says o)) (range_past (length rows) place high)
          ∙ sym (past place (slice_get_past rows place high))
    ]

-- what is told of each of a list, looked up
pub each_told : {X : Type 0} (says : X → Option ℕ) (xs : List X) (place : ℕ)
    → option_and_then (λ one. one) (slice_get (map says xs) place) ≡ option_and_then says (slice_get xs place)
each_told {X = X} says xs place = ap (option_and_then (λ one. one)) (slice_get-map says xs place) ∙ flat (slice_get xs place)
  where
    flat : (o : Option X) → option_and_then (λ one. one) (option_map says o) ≡ option_and_then says o
    flat None = refl
    flat (Some x) = refl

pub provider_row_told : (rows : List Entry) (place : ℕ)
    → option_and_then (λ one. one) (slice_get (of_rows (provider_row_of rows) rows) place) ≡ provider_row_of rows place
provider_row_told rows =
    row_told (provider_row_of rows) rows
    (λ at none. ap (option_and_then (λ (row : Entry). last_provider row.provider (take at rows))) none)

pub deleter_row_told : (rows : List Entry) (place : ℕ)
    → option_and_then (λ one. one) (slice_get (of_rows (deleter_row_of rows) rows) place) ≡ deleter_row_of rows place
deleter_row_told rows =
    row_told (deleter_row_of rows) rows
    (λ at none. ap (option_and_then (λ (row : Entry). last_of_urn row.deleted_with (take at rows))) none)
