-- What a row of a state refers to, and which row meets a reference.
use Rattle.std.specs.Prelude.{ℕ, Bool, false, not, ◌&&◌, map, Option, None, Some, List, [], ◌∷◌, ◌++◌}
use Rattle.std.specs.List.{flat_map, list_all, list_any}
use Rattle.std.specs.Str.{bytes_eq}
use Rattle.pl_lemmas.specs.Words.{option_list}
use Rattle.pl_state.specs.declared.entry.Entry.{Entry}
use Rattle.pl_state.specs.declared.fault.Missing.{Missing}
use Rattle.pl_state.specs.declared.fault.Missing.TheVariants.{Twice, Parent, Provider, Dependency, DeletedWith}
use Rattle.pl_state.specs.declared.goal.Goal.{Goal}
use Rattle.pl_reference.specs.declared.reference.ProviderRef.{ProviderRef}

-- whether a row has this URN
abbrev pub has_urn : List ℕ → Entry → Bool
has_urn urn row = bytes_eq row.urn urn

-- whether a row has this URN and is not to be deleted
abbrev pub keeps_urn : List ℕ → Entry → Bool
keeps_urn urn row = not row.doomed && has_urn urn row

-- whether an id is there and is this one
abbrev pub is_id : Option (List ℕ) → List ℕ → Bool
is_id None id = false
is_id (Some own) id = bytes_eq own id

-- whether a row has a reference's URN and its id
abbrev pub is_provider : ProviderRef → Entry → Bool
is_provider reference row = has_urn reference.urn row && is_id row.id reference.id

-- the URNs that the values of the properties depend on, those of each in order
abbrev pub property_urns : List (List ℕ × List (List ℕ)) → List (List ℕ)
property_urns pairs = flat_map (λ pair. pair.1) pairs

-- the reference of a field that may be missing
abbrev pub optional_refs : {X : Type 0} → (X → Missing) → Option X → List Missing
optional_refs kind None = []
optional_refs kind (Some named) = kind named ∷ []

-- what a row refers to, in order: parent, provider, dependencies, property dependencies, and what it is deleted
-- with. A reference is told as what the row would miss without it
abbrev pub refs : Entry → List Missing
refs row =
    optional_refs Parent row.parent ++ (optional_refs Provider row.provider
    ++ (map Dependency row.dependencies ++ (map Dependency (property_urns row.property_dependencies)
    ++ optional_refs DeletedWith row.deleted_with)))

-- whether a row meets a reference, wherever it stands; a URN of one's own is none
abbrev pub meets : Missing → Entry → Bool
meets (Twice urn) row = false
meets (Parent urn) row = has_urn urn row
meets (Provider reference) row = is_provider reference row
meets (Dependency urn) row = has_urn urn row
meets (DeletedWith urn) row = has_urn urn row

-- whether one of a row's references is met by another row, wherever the two stand
abbrev pub names_row : Entry → Entry → Bool
names_row row other = list_any (λ reference. meets reference other) (refs row)

-- the URNs that a goal refers to beside its parent's and its provider's, in order: dependencies, property
-- dependencies, and what it is deleted with
abbrev pub further_urns : Goal → List (List ℕ)
further_urns goal =
    goal.dependencies ++ (property_urns goal.property_dependencies ++ option_list goal.deleted_with)

-- whether one of the rows meets a reference
abbrev pub is_among : List Entry → Missing → Bool
is_among rows reference = list_any (meets reference) rows

-- whether each reference of a row is met by one of the rows
abbrev pub finds_references : List Entry → Entry → Bool
finds_references rows row = list_all (is_among rows) (refs row)
