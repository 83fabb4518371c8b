-- The entries after a refresh: what was read is put in, what is gone is left out, and no reference is left
-- that nothing meets.
use Rattle.std.specs.Prelude.{ℕ, suc, Bool, true, if◌then◌else◌, filter, length, map, reverse, take, unwrap_or, Option, None, Some, List, [], ◌∷◌, ◌++◌}
use Rattle.std.specs.List.{list_any}
use Rattle.pl_value.specs.Secrets.{marked}
use Rattle.pl_value.specs.declared.value.Value.{Value}
use Rattle.pl_lemmas.specs.Words.{some_passes}
use Rattle.pl_state.specs.References.{has_urn, is_provider}
use Rattle.pl_state.specs.declared.entry.Entry.{Entry}
use Rattle.pl_reference.specs.declared.reference.ProviderRef.{ProviderRef}
use Rattle.pl_refresh.specs.declared.row_now.RowNow.{RowNow}
use Rattle.pl_refresh.specs.declared.row_now.RowNow.TheVariants.{AsItWas, Found, Gone}

-- a row once its thing was read: the id and the outputs that were found, and the inputs if some were; the
-- outputs that the row names are secrets
abbrev pub refreshed : Entry → List ℕ → Option (List (List ℕ × Value)) → List (List ℕ × Value) → Entry
refreshed row found_id found_inputs found_outputs = record row {
  id = Some found_id;
  inputs = unwrap_or found_inputs row.inputs;
  outputs = marked row.additional_secret_outputs found_outputs;
}

-- an entry of the result before its references are looked at, and the place in the base before which its
-- ancestors are found
pub record Left : Type 0 where
  pub place : ℕ
  pub row : Entry

-- what is left of the row at a place
abbrev pub left_of : ℕ → Entry → RowNow → List Left
left_of place row AsItWas = record { place = place; row = row } ∷ []
left_of place row (Found entry) = record { place = place; row = entry } ∷ []
left_of place row Gone = []

-- the rows that are left, the first one's place being given; a row of which nothing is said is as it was
abbrev pub rows_left : ℕ → List Entry → List RowNow → List Left
rows_left place [] now = []
rows_left place (row ∷ rows) [] = record { place = place; row = row } ∷ rows_left (suc place) rows []
rows_left place (row ∷ rows) (one ∷ now) = left_of place row one ++ rows_left (suc place) rows now

-- a row is to be deleted where an imported entry has its URN
abbrev pub replaced_row : List Entry → Entry → Entry
replaced_row imported row = if list_any (has_urn row.urn) imported then record row { doomed = true } else row

-- the same of an entry with its place
abbrev pub replaced_left : List Entry → Left → Left
replaced_left imported left = record { place = left.place; row = replaced_row imported left.row }

-- the imported entries, which stand after all rows of the base
abbrev pub imported_left : List Entry → List Entry → List Left
imported_left base imported = map (λ entry. record { place = length base; row = entry }) imported

-- all entries of the result, in order, before their references are looked at
abbrev pub all_left : List Entry → List RowNow → List Entry → List Left
all_left base now imported =
    map (replaced_left imported) (rows_left 0 base now) ++ imported_left base imported

-- whether one of the earlier entries has the URN
abbrev pub is_there : List Entry → List ℕ → Bool
is_there earlier urn = list_any (has_urn urn) earlier

-- the URN that is looked for once a row was passed: that of its parent where it is the row looked for
abbrev pub past_row : Entry → Option (List ℕ) → Option (List ℕ)
past_row row None = None
past_row row (Some urn) = if has_urn urn row then row.parent else Some urn

-- the URN, where it passes the test
abbrev pub if_there : (List ℕ → Bool) → Option (List ℕ) → Option (List ℕ)
if_there there urn = if some_passes there urn then urn else None

-- the nearest of a URN and its ancestors that is there; the rows of the base before, last first
abbrev pub nearest : (List ℕ → Bool) → List Entry → Option (List ℕ) → Option (List ℕ)
nearest there [] urn = if_there there urn
nearest there (row ∷ before) urn = if some_passes there urn then urn else nearest there before (past_row row urn)

-- the parent that is left of an entry
abbrev pub parent_left : List Entry → List Entry → Left → Option (List ℕ)
parent_left base earlier left = nearest (is_there earlier) (reverse (take left.place base)) left.row.parent

-- the provider that is left of an entry
abbrev pub provider_left : List Entry → Option ProviderRef → Option ProviderRef
provider_left earlier None = None
provider_left earlier (Some reference) = if list_any (is_provider reference) earlier then Some reference else None

-- the URNs that are left of a list
abbrev pub urns_left : List Entry → List (List ℕ) → List (List ℕ)
urns_left earlier urns = filter (is_there earlier) urns

-- the URNs that are left of each property, which keeps its place
abbrev pub keyed_left : List Entry → List (List ℕ × List (List ℕ)) → List (List ℕ × List (List ℕ))
keyed_left earlier pairs = map (λ pair. (pair.0, urns_left earlier pair.1)) pairs

-- an entry without the references that no earlier entry meets
abbrev pub pruned_row : List Entry → List Entry → Left → Entry
pruned_row base earlier left = record left.row {
  parent = parent_left base earlier left;
  provider = provider_left earlier left.row.provider;
  dependencies = urns_left earlier left.row.dependencies;
  property_dependencies = keyed_left earlier left.row.property_dependencies;
  deleted_with = if_there (is_there earlier) left.row.deleted_with;
}

-- the entries without such references, behind those that stand already
abbrev pub pruned_behind : List Entry → List Entry → List Left → List Entry
pruned_behind base earlier [] = earlier
pruned_behind base earlier (left ∷ more) =
    pruned_behind base (earlier ++ pruned_row base earlier left ∷ []) more

-- the entries after a refresh: what is left of the base, then the imported ones
abbrev pub pruned : List Entry → List RowNow → List Entry → List Entry
pruned base now imported = pruned_behind base [] (all_left base now imported)
