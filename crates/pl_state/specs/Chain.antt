-- Which rows refer to a row, directly or through others, and which row is that of a row's provider.
use Rattle.std.specs.Prelude.{ℕ, zero, suc, Bool, false, not, ◌&&◌, ◌||◌, if◌then◌else◌, find, length, nat_lt, option_and_then, option_map, slice_get, take, Option, None, Some, List, [], ◌∷◌, ◌++◌}
use Rattle.std.specs.List.{filter_map, list_any}
use Rattle.pl_lemmas.specs.Words.{some_passes}
use Rattle.pl_state.specs.declared.entry.Entry.{Entry}
use Rattle.pl_reference.specs.declared.reference.ProviderRef.{ProviderRef}
use Rattle.pl_state.specs.References.{has_urn, is_provider, names_row}

-- whether the row at the first place refers to the one at the second, which has to stand before it
abbrev pub refers_to : List Entry → ℕ → ℕ → Bool
refers_to rows later earlier =
    nat_lt earlier later
    && some_passes (λ row. some_passes (names_row row) (slice_get rows earlier)) (slice_get rows later)

-- whether a row is in the chain of the row at a place: it refers to that row or to one of the chain
-- before it
abbrev pub joins : List Entry → ℕ → List ℕ → ℕ → Bool
joins rows at chain place = refers_to rows place at || list_any (refers_to rows place) chain

-- a chain, with a row at its end if the row is in it
abbrev pub chain_with : List Entry → ℕ → List ℕ → ℕ → List ℕ
chain_with rows at chain place = if joins rows at chain place then chain ++ place ∷ [] else chain

-- the chain of the row at a place among the first rows, whose number is given
abbrev pub chain_among : List Entry → ℕ → ℕ → List ℕ
chain_among rows at zero = []
chain_among rows at (suc count) = chain_with rows at (chain_among rows at count) count

-- the places of all rows that refer to the row at a place, directly or through others, rising
abbrev pub chain_of : List Entry → ℕ → List ℕ
chain_of rows at = chain_among rows at (length rows)

-- the rows at these places, each with its place
abbrev pub rows_at : List Entry → List ℕ → List (ℕ × Entry)
rows_at rows places = filter_map (λ place. option_map (λ row. (place, row)) (slice_get rows place)) places

-- whether a row of a chain goes along with the row whose chain it is: nobody claims it, or it is to be deleted
abbrev pub goes_along : (ℕ → Bool) → ℕ × Entry → Bool
goes_along claims row = row.1.doomed || not (claims row.0)

-- the first of a chain's rows that is protected and goes along
abbrev pub first_protected : (ℕ → Bool) → List (ℕ × Entry) → Option Entry
first_protected claims chain = option_map (λ row. row.1) (find (λ row. goes_along claims row && row.1.protect) chain)

-- the place found, or else the given one if it is one
abbrev pub or_else_place : Option ℕ → Bool → ℕ → Option ℕ
or_else_place (Some later) here place = Some later
or_else_place None here place = if here then Some place else None

-- the place of the last row that passes a test, the first row's place being given
abbrev pub last_from : (Entry → Bool) → ℕ → List Entry → Option ℕ
last_from test place [] = None
last_from test place (row ∷ rows) = or_else_place (last_from test (suc place) rows) (test row) place

-- the place of the last row that passes a test
abbrev pub last_place : (Entry → Bool) → List Entry → Option ℕ
last_place test rows = last_from test 0 rows

-- the place of the last row that is the provider of a reference, if there is a reference
abbrev pub last_provider : Option ProviderRef → List Entry → Option ℕ
last_provider reference rows = option_and_then (λ named. last_place (is_provider named) rows) reference

-- the place of the provider of the row at a place: the last row before it that its reference names
abbrev pub provider_row_of : List Entry → ℕ → Option ℕ
provider_row_of rows at = option_and_then (λ row. last_provider row.provider (take at rows)) (slice_get rows at)

-- the place of the last row that has a URN, if there is a URN
abbrev pub last_of_urn : Option (List ℕ) → List Entry → Option ℕ
last_of_urn urn rows = option_and_then (λ named. last_place (has_urn named) rows) urn

-- the place of the row whose deletion takes along the one at a place: the last row before it with the URN that it
-- names
abbrev pub deleter_row_of : List Entry → ℕ → Option ℕ
deleter_row_of rows at = option_and_then (λ row. last_of_urn row.deleted_with (take at rows)) (slice_get rows at)
