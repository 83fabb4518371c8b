-- What the wants of a row say of the rows of a state.
use Rattle.std.proofs.Common.{◌≡◌, ◌<◌, ◌≤◌, ◌&&◌, ℕ, Bool, true, false, not, cond, List, [], ◌∷◌, ◌++◌, length, take, map, refl, sym, ap, ◌∙◌, Option, Some, None, is_none, inl, inr, get_or, ◌+◌, below_more}
use Rattle.std.proofs.lemmas.Bool.{cases_lt}
use Rattle.std.proofs.lemmas.List.Folds.{list_all-append, list_all-map}
use Rattle.std.proofs.lemmas.Option.{slice_get_past, slice_get_read}
use Rattle.std.specs.List.{find, flat_map, list_all, list_any, slice_get}
use Rattle.std.specs.Option.{option_and_then}
use Rattle.pl_lemmas.proofs.Options.{none_is, some_not_none}
use Rattle.pl_state.specs.declared.entry.Entry.{Entry}
use Rattle.pl_state.specs.declared.fault.Missing.{Missing}
use Rattle.pl_state.specs.declared.fault.Missing.TheVariants.{Parent, Provider, Dependency, DeletedWith}
use Rattle.pl_state.specs.References.{has_urn, optional_refs, property_urns}
use Rattle.pl_sound.specs.Sound.{fault_at, finds_all, first_unmet, is_met, IsFirstFaulty, IsSound, own_wants, wants}

find_step : {X : Type 0} (b r : Bool) (x : X) (o : Option X) → r ≡ is_none o → (b && r) ≡ is_none (cond (not b) (Some x) o)
find_step true r x o h = h
find_step false r x o h = refl

-- all pass where none is found that does not
list_all-find : {X : Type 0} (p : X → Bool) (xs : List X) → list_all p xs ≡ is_none (find (λ x. not (p x)) xs)
list_all-find p [] = refl
list_all-find p (x ∷ xs) = find_step (p x) (list_all p xs) x (find (λ y. not (p y)) xs) (list_all-find p xs)

-- a test of each element of lists that are joined
pub list_all-flat_map : {X Y : Type 0} (p : Y → Bool) (f : X → List Y) (xs : List X) → list_all p (flat_map f xs) ≡ list_all (λ x. list_all p (f x)) xs
list_all-flat_map p f [] = refl
list_all-flat_map p f (x ∷ xs) = list_all-append p (f x) (flat_map f xs) ∙ ap (λ (b : Bool). list_all p (f x) && b) (list_all-flat_map p f xs)

regroup : (a b c d e f : Bool) → (a && (b && (c && (d && (e && f))))) ≡ (a && b && c && d && e && f)
regroup true true true true e f = refl
regroup true true true false e f = refl
regroup true true false d e f = refl
regroup true false c d e f = refl
regroup false b c d e f = refl

-- whether each want of a row is met, kind by kind
abbrev pub finds_kinds : List Entry → Entry → Bool
finds_kinds before row =
    list_all (is_met before) (own_wants row)
    && list_all (is_met before) (optional_refs Parent row.parent)
    && list_all (is_met before) (optional_refs Provider row.provider)
    && list_all (λ urn. list_any (has_urn urn) before) row.dependencies
    && list_all (λ pair. list_all (λ urn. list_any (has_urn urn) before) pair.1) row.property_dependencies
    && list_all (is_met before) (optional_refs DeletedWith row.deleted_with)

-- the wants of a row are met where those of each kind are
pub finds_all-kinds : (before : List Entry) (row : Entry) → finds_all before row ≡ finds_kinds before row
finds_all-kinds before row =
    let met : Missing → Bool = is_met before in
    let own : List Missing = own_wants row in
    let parent : List Missing = optional_refs Parent row.parent in
    let provider : List Missing = optional_refs Provider row.provider in
    let urns : List Missing = map Dependency row.dependencies in
    let properties : List Missing = map Dependency (property_urns row.property_dependencies) in
    let deleter : List Missing = optional_refs DeletedWith row.deleted_with in
    let all_urns : Bool = list_all (λ urn. list_any (has_urn urn) before) row.dependencies in
    let all_properties : Bool = list_all (λ pair. list_all (λ urn. list_any (has_urn urn) before) pair.1) row.property_dependencies in
    let of_urns : list_all met urns ≡ all_urns = list_all-map met Dependency row.dependencies in
    let of_properties : list_all met properties ≡ all_properties =
    list_all-map met Dependency (property_urns row.property_dependencies) ∙ list_all-flat_map (λ urn. list_any (has_urn urn) before) (λ pair. pair.1) row.property_dependencies in
    list_all-append met own (parent ++ (provider ++ (urns ++ (properties ++ deleter))))
    ∙ ap (λ (b : Bool). list_all met own && b) (list_all-append met parent (provider ++ (urns ++ (properties ++ deleter)))
    ∙ ap (λ (b : Bool). list_all met parent && b) (list_all-append met provider (urns ++ (properties ++ deleter))
    ∙ ap (λ (b : Bool). list_all met provider && b) (list_all-append met urns (properties ++ deleter)
    ∙ ap (λ (b : Bool). b && list_all met (properties ++ deleter)) of_urns
    ∙ ap (λ (b : Bool). all_urns && b) (list_all-append met properties deleter
    ∙ ap (λ (b : Bool). b && list_all met deleter) of_properties))))
    ∙ regroup (list_all met own) (list_all met parent) (list_all met provider) all_urns all_properties (list_all met deleter)

is_none-first_unmet : (before : List Entry) (row : Entry) → is_none (first_unmet (is_met before) row) ≡ finds_all before row
unfolding first_unmet
is_none-first_unmet before row = sym (list_all-find (is_met before) (wants row))

pub fault_at-row : (rows : List Entry) (at : ℕ) (row : Entry) → slice_get rows at ≡ Some row → fault_at rows at ≡ first_unmet (is_met (take at rows)) row
unfolding fault_at
fault_at-row rows at row h = ap (option_and_then (λ r. first_unmet (is_met (take at rows)) r)) h

pub fault_at-past : (rows : List Entry) (at : ℕ) → length rows ≤ at → fault_at rows at ≡ None
unfolding fault_at
fault_at-past rows at h = ap (option_and_then (λ r. first_unmet (is_met (take at rows)) r)) (slice_get_past rows at h)

-- a row that finds all has no fault
pub fault_at-none : (rows : List Entry) (at : ℕ) (row : Entry) → slice_get rows at ≡ Some row → finds_all (take at rows) row ≡ true → fault_at rows at ≡ None
fault_at-none rows at row h all =
    fault_at-row rows at row h ∙ none_is _ (is_none-first_unmet (take at rows) row ∙ all)

-- a row that does not has one
pub fault_at-some : (rows : List Entry) (at : ℕ) (row : Entry) → slice_get rows at ≡ Some row → finds_all (take at rows) row ≡ false → (missing : Missing) × (fault_at rows at ≡ Some missing)
fault_at-some rows at row h lacks =
    let found = some_not_none (first_unmet (is_met (take at rows)) row) (is_none-first_unmet (take at rows) row ∙ lacks) in
    (found.0, fault_at-row rows at row h ∙ found.1)

-- rows without a fault below their number are sound
pub IsSound-from_below : (rows : List Entry) → ((at : ℕ) → at < length rows → fault_at rows at ≡ None) → IsSound rows
IsSound-from_below rows below at =
    elim (cases_lt at (length rows)) [
      | inl here ↦ below at here
      | inr past ↦ fault_at-past rows at past
    ]

-- the first row that does not find all is the first faulty one
pub first_faulty : (rows : List Entry) (at : ℕ) (row : Entry) (found : Bool) → at < length rows → row ≡ get_or rows at row → found ≡ finds_all (take at rows) row → found ≡ false → ((k : ℕ) → k < at → fault_at rows k ≡ None) → IsFirstFaulty rows at
first_faulty rows at row found inside is answer lacks below =
    let fault = fault_at-some rows at row (slice_get_read rows (length rows) at row refl inside is) (sym answer ∙ lacks) in
    (fault.0, record { here = fault.1; before = below })

-- one more row that finds all
pub sound_so_far : (rows : List Entry) (at : ℕ) (row : Entry) (found : Bool) → at < length rows → row ≡ get_or rows at row → found ≡ finds_all (take at rows) row → found ≡ true → ((k : ℕ) → k < at → fault_at rows k ≡ None) → (k : ℕ) → k < at + 1 → fault_at rows k ≡ None
sound_so_far rows at row found inside is answer finds below =
    below_more _ _ below (fault_at-none rows at row (slice_get_read rows (length rows) at row refl inside is) (sym answer ∙ finds))
