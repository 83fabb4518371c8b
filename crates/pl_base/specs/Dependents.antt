-- The rows that refer to a row, and how their lists are filled.
use Rattle.std.specs.Prelude.{ℕ, ◌-◌, Bool, if◌then◌else◌, List, [], ◌∷◌, ◌++◌, length, filter, slice_get}
use Rattle.std.specs.Borrow.{Bor}
use Rattle.std.specs.BTreeMap.{BTreeMap, get_by}
use Rattle.std.specs.Cmp.Lexicographic.{slice_cmp}
use Rattle.std.specs.Global.{Vec}
use Rattle.std.specs.List.{flat_map, range_with_len}
use Rattle.std.specs.Option.{option_map_or}
use Rattle.std.specs.Ordering.{nat_cmp}
use Rattle.pl_lemmas.specs.Words.{is_row, option_list, some_passes}
use Rattle.pl_reference.specs.declared.reference.ProviderRef.{ProviderRef}
use Rattle.pl_state.specs.Chain.{refers_to}
use Rattle.pl_state.specs.References.{is_id, property_urns}
use Rattle.pl_state.specs.declared.entry.Entry.{Entry}

-- the rows that refer to the one at a place, rising, among the first rows, whose number is given
abbrev pub dependents_among : List Entry → ℕ → ℕ → List ℕ
dependents_among rows count row = filter (λ later. refers_to rows later row) (range_with_len 0 count)

-- the same among all rows
abbrev pub dependents_of : List Entry → ℕ → List ℕ
dependents_of rows row = dependents_among rows (length rows) row

-- ---- the rows that a row refers to

-- the rows that are kept of a URN
abbrev pub group_in : BTreeMap (Bor (List ℕ)) (Vec ℕ) → List ℕ → List ℕ
group_in groups urn = option_map_or (λ group. group.items) (get_by (λ key. slice_cmp nat_cmp urn key.now) groups) []

-- whether a row has an id
abbrev pub has_id : List Entry → List ℕ → ℕ → Bool
has_id rows id place = some_passes (λ row. is_id row.id id) (slice_get rows place)

-- the rows that are kept of a reference's URN and have its id
abbrev pub providers_in : List Entry → BTreeMap (Bor (List ℕ)) (Vec ℕ) → ProviderRef → List ℕ
providers_in rows groups reference = filter (has_id rows reference.id) (group_in groups reference.urn)

-- the rows that are kept of what a row refers to
abbrev pub met_by : List Entry → BTreeMap (Bor (List ℕ)) (Vec ℕ) → Entry → List ℕ
met_by rows groups row =
    flat_map (group_in groups) (option_list row.parent)
    ++ flat_map (providers_in rows groups) (option_list row.provider)
    ++ flat_map (group_in groups) row.dependencies
    ++ flat_map (group_in groups) (property_urns row.property_dependencies)
    ++ flat_map (group_in groups) (option_list row.deleted_with)

-- ---- one row more

-- whether a list ends in a number
abbrev pub ends_in : ℕ → List ℕ → Bool
ends_in later list = is_row (slice_get list (length list - 1)) later

-- a list with a number at its end
abbrev pub joined : ℕ → List ℕ → List ℕ
joined later list = if ends_in later list then list else list ++ later ∷ []

-- the same where it is to be put there
abbrev pub joined_if : Bool → ℕ → List ℕ → List ℕ
joined_if joins later list = if joins then joined later list else list
