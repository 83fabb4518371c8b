-- The rows that have a URN, and the rows that a row refers to.
use Rattle.std.proofs.Common.{◌≡◌, ℕ, ◌<◌, ◌+◌, Bool, true, false, ◌&&◌, ◌||◌, ◌==◌, cond, if◌then◌else◌, nat_lt, List, [], ◌∷◌, ◌++◌, filter, length, map, get_or, Option, Some, None, Bor, refl, sym, ap, ◌∙◌, arith}
use Rattle.std.proofs.lemmas.Bool.Decides.{nat_tests}
use Rattle.std.proofs.lemmas.List.Folds.{list_any-append}
use Rattle.std.proofs.lemmas.Option.{slice_get_read}
use Rattle.std.specs.BTreeMap.{BTreeMap, is_at}
use Rattle.std.specs.Cmp.Lexicographic.{slice_cmp}
use Rattle.std.specs.Global.{Vec}
use Rattle.std.specs.List.{flat_map, list_any, slice_get}
use Rattle.std.specs.Map.{lookup}
use Rattle.std.specs.Option.{option_map_or}
use Rattle.std.specs.Ordering.{nat_cmp}
use Rattle.pl_lemmas.specs.Words.{has_number, option_list, some_passes}
use Rattle.pl_lemmas.proofs.Lists.{any_mapped}
use Rattle.pl_lemmas.proofs.Numbers.{equal_numbers}
use Rattle.pl_lemmas.proofs.Truth.{and_left}
use Rattle.pl_reference.specs.declared.reference.ProviderRef.{ProviderRef}
use Rattle.pl_state.specs.Chain.{refers_to}
use Rattle.pl_state.specs.References.{has_urn, is_id, is_provider, meets, names_row, optional_refs, property_urns}
use Rattle.pl_state.specs.declared.entry.Entry.{Entry}
use Rattle.pl_state.specs.declared.fault.Missing.{Missing}
use Rattle.pl_state.specs.declared.fault.Missing.TheVariants.{Dependency, DeletedWith, Parent, Provider}
use Rattle.pl_base.specs.Dependents.{group_in, has_id, met_by, providers_in}

-- under each URN stand the rows among the first ones that have it
abbrev pub Grouped : BTreeMap (Bor (List ℕ)) (Vec ℕ) → List Entry → ℕ → Type 0
Grouped groups rows count = (urn : List ℕ) (row : ℕ) →
    has_number (group_in groups urn) row ≡ (nat_lt row count && some_passes (has_urn urn) (slice_get rows row))

-- no row is in an empty index
pub grouped_start : (groups : BTreeMap (Bor (List ℕ)) (Vec ℕ)) (rows : List Entry) → groups.entries ≡ [] → Grouped groups rows 0
grouped_start groups rows none urn row =
    let past : nat_lt row 0 ≡ false = grind (arith, nat_tests) in
    ap (λ (entries : List (Bor (List ℕ) × Vec ℕ)).
    has_number (option_map_or (λ group. group.items) (lookup (is_at (λ key. slice_cmp nat_cmp urn key.now)) entries) []) row) none
    ∙ sym (ap (λ (b : Bool). b && some_passes (has_urn urn) (slice_get rows row)) past)

-- ---- one row more

pub grouped_more : (old new : BTreeMap (Bor (List ℕ)) (Vec ℕ)) (rows : List Entry) (i : ℕ) (row : Entry) → i < length rows
    → row ≡ get_or rows i row → Grouped old rows i
    → ((urn : List ℕ) → group_in new urn ≡ (if has_urn urn row then group_in old urn ++ i ∷ [] else group_in old urn))
    → Grouped new rows (i + 1)
grouped_more old new rows i row inside is grouped added urn place =
    ap (λ (group : List ℕ). has_number group place) (added urn)
    ∙ by (has_urn urn row) refl (i == place) refl
  where
    here : slice_get rows i ≡ Some row
    here = slice_get_read rows (length rows) i row refl inside is

    -- a place other than the last one
    other : (i == place) ≡ false → nat_lt place (i + 1) ≡ nat_lt place i
    other apart = grind (arith, nat_tests)

    own : (i == place) ≡ true → slice_get rows place ≡ Some row
    own same = ap (slice_get rows) (sym (equal_numbers i place same)) ∙ here

    past : (i == place) ≡ true → nat_lt place i ≡ false
    past same = grind (arith, nat_tests)

    last : (i == place) ≡ true → nat_lt place (i + 1) ≡ true
    last same = grind (arith, nat_tests)

    false_or : (b : Bool) → (b || (false || false)) ≡ b
    false_or true = refl
    false_or false = refl

    true_or : (b : Bool) → (b || (true || false)) ≡ true
    true_or true = refl
    true_or false = refl

    by : (b : Bool) → has_urn urn row ≡ b → (s : Bool) → (i == place) ≡ s
        → has_number (if b then group_in old urn ++ i ∷ [] else group_in old urn) place
        ≡ (nat_lt place (i + 1) && some_passes (has_urn urn) (slice_get rows place))
    by true has true same =
        list_any-append (λ (other : ℕ). other == place) (group_in old urn) (i ∷ [])
        ∙ ap (λ (b : Bool). has_number (group_in old urn) place || (b || false)) same
        ∙ true_or (has_number (group_in old urn) place)
        ∙ sym ((λ k. last same k && some_passes (has_urn urn) (own same k)) ∙ has)
    by true has false same =
        list_any-append (λ (other : ℕ). other == place) (group_in old urn) (i ∷ [])
        ∙ ap (λ (b : Bool). has_number (group_in old urn) place || (b || false)) same
        ∙ false_or (has_number (group_in old urn) place)
        ∙ grouped urn place
        ∙ ap (λ (b : Bool). b && some_passes (has_urn urn) (slice_get rows place)) (sym (other same))
    by false has true same =
        grouped urn place
        ∙ ap (λ (b : Bool). b && some_passes (has_urn urn) (slice_get rows place)) (past same)
        ∙ sym ((λ k. last same k && some_passes (has_urn urn) (own same k)) ∙ has)
    by false has false same =
        grouped urn place
        ∙ ap (λ (b : Bool). b && some_passes (has_urn urn) (slice_get rows place)) (sym (other same))

-- ---- the rows that a row refers to

-- whether one of these URNs is a row's
abbrev named : List (List ℕ) → Entry → Bool
named urns other = list_any (λ urn. has_urn urn other) urns

-- whether a row is the provider that there may be
abbrev provided : Option ProviderRef → Entry → Bool
provided reference other = list_any (λ one. is_provider one other) (option_list reference)

none_passes : (t : Bool) (o : Option Entry) → false ≡ (t && some_passes (λ other. false) o)
none_passes true None = refl
none_passes true (Some other) = refl
none_passes false o = refl

either : (t : Bool) (o : Option Entry) (p q : Entry → Bool)
    → ((t && some_passes p o) || (t && some_passes q o)) ≡ (t && some_passes (λ other. p other || q other) o)
either true None p q = refl
either true (Some other) p q = refl
either false o p q = refl

or_five : (a b c d e : Bool) → ((((a || b) || c) || d) || e) ≡ (a || (b || (c || (d || e))))
or_five true b c d e = refl
or_five false true c d e = refl
or_five false false true d e = refl
or_five false false false d e = refl

five : (t : Bool) (o : Option Entry) (p q r s u : Entry → Bool)
    → (((((t && some_passes p o) || (t && some_passes q o)) || (t && some_passes r o)) || (t && some_passes s o)) || (t && some_passes u o))
    ≡ (t && some_passes (λ other. p other || (q other || (r other || (s other || u other)))) o)
five true None p q r s u = refl
five true (Some other) p q r s u = or_five (p other) (q other) (r other) (s other) (u other)
five false o p q r s u = refl

-- what a row refers to, kind by kind
names_parts : (row other : Entry) → names_row row other
    ≡ (named (option_list row.parent) other || (provided row.provider other || (named row.dependencies other
    || (named (property_urns row.property_dependencies) other || named (option_list row.deleted_with) other))))
names_parts row other =
    let met : Missing → Bool = λ reference. meets reference other in
    let providers : List Missing = optional_refs Provider row.provider in
    let urns : List Missing = map Dependency row.dependencies in
    let properties : List Missing = map Dependency (property_urns row.property_dependencies) in
    let deleter : List Missing = optional_refs DeletedWith row.deleted_with in
    list_any-append met (optional_refs Parent row.parent) (providers ++ (urns ++ (properties ++ deleter)))
    ∙ ap (λ (b : Bool). list_any met (optional_refs Parent row.parent) || b) (list_any-append met providers (urns ++ (properties ++ deleter))
    ∙ ap (λ (b : Bool). list_any met providers || b) (list_any-append met urns (properties ++ deleter)
    ∙ ap (λ (b : Bool). list_any met urns || b) (list_any-append met properties deleter)))
    ∙ (λ k. by_parent row.parent k || (by_provider row.provider k || (any_mapped met Dependency row.dependencies k
    || (any_mapped met Dependency (property_urns row.property_dependencies) k || by_deleter row.deleted_with k))))
  where
    by_parent : (o : Option (List ℕ)) → list_any (λ reference. meets reference other) (optional_refs Parent o) ≡ named (option_list o) other
    by_parent None = refl
    by_parent (Some urn) = refl

    by_provider : (o : Option ProviderRef) → list_any (λ reference. meets reference other) (optional_refs Provider o) ≡ provided o other
    by_provider None = refl
    by_provider (Some reference) = refl

    by_deleter : (o : Option (List ℕ)) → list_any (λ reference. meets reference other) (optional_refs DeletedWith o) ≡ named (option_list o) other
    by_deleter None = refl
    by_deleter (Some urn) = refl

has_filtered : (test : ℕ → Bool) (numbers : List ℕ) (n : ℕ) → has_number (filter test numbers) n ≡ (has_number numbers n && test n)
has_filtered test [] n = refl
has_filtered test (first ∷ numbers) n = by (test first) refl (first == n) refl (has_filtered test numbers n)
  where
    swap : (s b : Bool) → (s || (b && s)) ≡ s
    swap true b = refl
    swap false true = refl
    swap false false = refl

    by : (t : Bool) → test first ≡ t → (s : Bool) → (first == n) ≡ s → has_number (filter test numbers) n ≡ (has_number numbers n && test n)
        → has_number (cond t (first ∷ filter test numbers) (filter test numbers)) n ≡ (((first == n) || has_number numbers n) && test n)
    by true passes true same rest =
        ap (λ (b : Bool). b || has_number (filter test numbers) n) same
        ∙ sym (ap test (sym (equal_numbers first n same)) ∙ passes)
        ∙ ap (λ (b : Bool). (b || has_number numbers n) && test n) (sym same)
    by true passes false same rest =
        ap (λ (b : Bool). b || has_number (filter test numbers) n) same ∙ rest
        ∙ ap (λ (b : Bool). (b || has_number numbers n) && test n) (sym same)
    by false fails true same rest =
        let none : test n ≡ false = ap test (sym (equal_numbers first n same)) ∙ fails in
        rest ∙ ap (λ (b : Bool). has_number numbers n && b) none ∙ off (has_number numbers n)
        ∙ sym (ap (λ (b : Bool). (b || has_number numbers n) && test n) same ∙ none)
      where
        off : (b : Bool) → (b && false) ≡ false
        off true = refl
        off false = refl
    by false fails false same rest = rest ∙ ap (λ (b : Bool). (b || has_number numbers n) && test n) (sym same)

module _ (groups : BTreeMap (Bor (List ℕ)) (Vec ℕ)) (rows : List Entry) (i : ℕ) (grouped : Grouped groups rows i) (place : ℕ) where
  by_urns : (urns : List (List ℕ)) → has_number (flat_map (group_in groups) urns) place
      ≡ (nat_lt place i && some_passes (named urns) (slice_get rows place))
  by_urns [] = none_passes (nat_lt place i) (slice_get rows place)
  by_urns (urn ∷ urns) =
      list_any-append (λ (other : ℕ). other == place) (group_in groups urn) (flat_map (group_in groups) urns)
      ∙ (λ k. grouped urn place k || by_urns urns k)
      ∙ either (nat_lt place i) (slice_get rows place) (has_urn urn) (named urns)

  by_provider : (reference : Option ProviderRef) → has_number (flat_map (providers_in rows groups) (option_list reference)) place
      ≡ (nat_lt place i && some_passes (provided reference) (slice_get rows place))
  by_provider None = none_passes (nat_lt place i) (slice_get rows place)
  by_provider (Some reference) =
      list_any-append (λ (other : ℕ). other == place) (providers_in rows groups reference) []
      ∙ or_none (has_number (providers_in rows groups reference) place)
      ∙ has_filtered (has_id rows reference.id) (group_in groups reference.urn) place
      ∙ ap (λ (b : Bool). b && has_id rows reference.id place) (grouped reference.urn place)
      ∙ both (nat_lt place i) (slice_get rows place)
    where
      or_none : (b : Bool) → (b || false) ≡ b
      or_none true = refl
      or_none false = refl

      both : (t : Bool) (o : Option Entry)
          → ((t && some_passes (has_urn reference.urn) o) && some_passes (λ row. is_id row.id reference.id) o)
          ≡ (t && some_passes (λ other. is_provider reference other || false) o)
      both true None = refl
      both true (Some other) = sym (or_none (is_provider reference other))
      both false o = refl

  -- a row is met where it is referred to
  pub met_named : (row : Entry) → has_number (met_by rows groups row) place
      ≡ (nat_lt place i && some_passes (names_row row) (slice_get rows place))
  met_named row =
      let one : List ℕ = flat_map (group_in groups) (option_list row.parent) in
      let two : List ℕ = flat_map (providers_in rows groups) (option_list row.provider) in
      let three : List ℕ = flat_map (group_in groups) row.dependencies in
      let four : List ℕ = flat_map (group_in groups) (property_urns row.property_dependencies) in
      let last : List ℕ = flat_map (group_in groups) (option_list row.deleted_with) in
      let same : ℕ → Bool = λ other. other == place in
      list_any-append same (((one ++ two) ++ three) ++ four) last
      ∙ ap (λ (b : Bool). b || list_any same last) (list_any-append same ((one ++ two) ++ three) four
      ∙ ap (λ (b : Bool). b || list_any same four) (list_any-append same (one ++ two) three
      ∙ ap (λ (b : Bool). b || list_any same three) (list_any-append same one two)))
      ∙ (λ k. (((by_urns (option_list row.parent) k || by_provider row.provider k) || by_urns row.dependencies k)
      || by_urns (property_urns row.property_dependencies) k) || by_urns (option_list row.deleted_with) k)
      ∙ five (nat_lt place i) (slice_get rows place) (named (option_list row.parent)) (provided row.provider) (named row.dependencies)
      (named (property_urns row.property_dependencies)) (named (option_list row.deleted_with))
      ∙ (λ k. nat_lt place i && some_passes (λ other. sym (names_parts row other) k) (slice_get rows place))

  -- and stands among the first rows
  pub met_low : (row : Entry) → has_number (met_by rows groups row) place ≡ true → place < i
  met_low row h =
      let low : nat_lt place i ≡ true =
      and_left (nat_lt place i) (some_passes (names_row row) (slice_get rows place)) (sym (met_named row) ∙ h) in
      grind (arith, nat_tests)

  pub met_refers : (row : Entry) → slice_get rows i ≡ Some row → has_number (met_by rows groups row) place ≡ refers_to rows i place
  met_refers row here =
      met_named row
      ∙ ap (λ (o : Option Entry). nat_lt place i && some_passes (λ one. some_passes (names_row one) (slice_get rows place)) o) (sym here)
