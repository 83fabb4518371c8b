-- What a row refers to, kind by kind and turned, and which rows it names so.
use Rattle.std.proofs.Common.{◌≡◌, Bool, true, false, ◌&&◌, List, ◌∷◌, ◌++◌, map, ℕ, Option, Some, None, refl, sym, ◌∙◌, ap, ap₂, subst, option_map, []}
use Rattle.std.specs.List.{list_all, list_any}
use Rattle.pl_lemmas.proofs.Each.{Each, each_always, each_append}
use Rattle.pl_reference.specs.declared.reference.ProviderRef.{ProviderRef}
use Rattle.pl_lemmas.specs.Words.{option_list}
use Rattle.pl_state.specs.References.{finds_references, has_urn, is_among, is_provider, meets, names_row, optional_refs, property_urns, refs}
use Rattle.pl_sound.specs.Sound.{is_met}
use Rattle.pl_state.specs.declared.entry.Entry.{Entry}
use Rattle.pl_state.specs.declared.fault.Missing.{Missing}
use Rattle.pl_state.specs.declared.fault.Missing.TheVariants.{Twice, Parent, Provider, Dependency, DeletedWith}
use Rattle.pl_model.specs.Entries.{Turning}
use Rattle.pl_model_stays.proofs.Lists.Pairs.{each_map, each_flat, each_front, each_back, each_unflat, each_names}
use Rattle.pl_model_laws.proofs.References.Referring.{MeetsReferences, further_of}
use Rattle.pl_model_laws.proofs.References.Sounding.{AreMet}
use Rattle.pl_model_laws.proofs.Rows.Turning.{IsTurned, Keyed, keyed_by, turned_by}

-- ---- wants by their kinds

each_all : {X : Type 0} (p : X → Bool) (xs : List X) → list_all p xs ≡ true → Each (λ x. p x ≡ true) xs
each_all p [] h = tt
each_all p (x ∷ xs) h = by (p x) refl h (each_all p xs)
  where
    by : (b : Bool) → p x ≡ b → (b && list_all p xs) ≡ true → (list_all p xs ≡ true → Each (λ y. p y ≡ true) xs) → Each (λ y. p y ≡ true) (x ∷ xs)
    by true is h rest = (is, rest h)
    by false is h rest = absurd (let e : false ≡ true = h in cc)

-- the references of a row are met kind by kind
pub record MeetsKinds (before : List Entry) (row : Entry) : Type 0 where
  pub parent : (urn : List ℕ) → row.parent ≡ Some urn → list_any (has_urn urn) before ≡ true
  pub provider : (reference : ProviderRef) → row.provider ≡ Some reference → list_any (is_provider reference) before ≡ true
  pub dependencies : Each (λ urn. list_any (has_urn urn) before ≡ true) row.dependencies
  pub property_dependencies : Each (λ (pair : List ℕ × List (List ℕ)). Each (λ urn. list_any (has_urn urn) before ≡ true) pair.1) row.property_dependencies
  pub deleted_with : (urn : List ℕ) → row.deleted_with ≡ Some urn → list_any (has_urn urn) before ≡ true

optional_met : {X : Type 0} (before : List Entry) (want : X → Missing) (o : Option X)
    → ((x : X) → o ≡ Some x → is_met before (want x) ≡ true) → AreMet before (optional_refs want o)
optional_met before want None h = tt
optional_met before want (Some x) h = (h x refl, tt)

pub met_by_kinds : (before : List Entry) (row : Entry) → MeetsKinds before row → AreMet before (refs row)
met_by_kinds before row h =
    each_append (λ (want : Missing). is_met before want ≡ true) (optional_refs Parent row.parent) _ (optional_met before Parent row.parent h.parent)
    (each_append (λ (want : Missing). is_met before want ≡ true) (optional_refs Provider row.provider) _ (optional_met before Provider row.provider h.provider)
    (each_append (λ (want : Missing). is_met before want ≡ true) (map Dependency row.dependencies) _
    (each_map Dependency (λ (want : Missing). is_met before want ≡ true) row.dependencies h.dependencies)
    (each_append (λ (want : Missing). is_met before want ≡ true) (map Dependency (property_urns row.property_dependencies)) (optional_refs DeletedWith row.deleted_with)
    (each_map Dependency (λ (want : Missing). is_met before want ≡ true) (property_urns row.property_dependencies)
    (each_flat (λ (pair : List ℕ × List (List ℕ)). pair.1) (λ urn. list_any (has_urn urn) before ≡ true) row.property_dependencies h.property_dependencies))
    (optional_met before DeletedWith row.deleted_with h.deleted_with))))

one_met : {X : Type 0} (before : List Entry) (want : X → Missing) (o : Option X) → AreMet before (optional_refs want o)
    → (x : X) → o ≡ Some x → is_met before (want x) ≡ true
one_met before want None h x is = absurd (let e : None ≡ Some x = is in cc)
one_met {X} before want (Some y) h x is = subst (λ (z : X). is_met before (want z) ≡ true) (let e : Some y ≡ Some x = is in cc) h.0

-- a row whose references are met finds its provider
pub provider_met : (before : List Entry) (row : Entry) → AreMet before (refs row) → (reference : ProviderRef)
    → row.provider ≡ Some reference → list_any (is_provider reference) before ≡ true
provider_met before row h =
    let more = each_back (λ (want : Missing). is_met before want ≡ true) (optional_refs Parent row.parent) _ h in
    one_met before Provider row.provider (each_front (λ (want : Missing). is_met before want ≡ true) (optional_refs Provider row.provider) _ more)

-- what meets the references of a new entry
pub met_by_tests : (before : List Entry) (row : Entry) → MeetsReferences before row → AreMet before (refs row)
met_by_tests before row h = met_by_kinds before row (record {
  parent = one_met before Parent row.parent (each_all (is_met before) (optional_refs Parent row.parent) h.parent);
  provider = one_met before Provider row.provider (each_all (is_met before) (optional_refs Provider row.provider) h.provider);
  dependencies = each_front There row.dependencies _ all_there;
  property_dependencies = each_unflat (λ (pair : List ℕ × List (List ℕ)). pair.1) There row.property_dependencies
      (each_front There (property_urns row.property_dependencies) (option_list row.deleted_with) behind);
  deleted_with = last row.deleted_with (each_back There (property_urns row.property_dependencies) (option_list row.deleted_with) behind);
})
  where
    There : List ℕ → Type 0
    There urn = list_any (has_urn urn) before ≡ true

    all_there : Each There (further_of row)
    all_there = each_all (λ urn. list_any (has_urn urn) before) (further_of row) h.further

    behind : Each There (property_urns row.property_dependencies ++ option_list row.deleted_with)
    behind = each_back There row.dependencies _ all_there

    last : (o : Option (List ℕ)) → Each There (option_list o) → (urn : List ℕ) → o ≡ Some urn → There urn
    last None h urn is = absurd (let e : None ≡ Some urn = is in cc)
    last (Some own) h urn is = subst There (let e : Some own ≡ Some urn = is in cc) h.0

-- ---- references among others

-- no reference is the want of a URN of one's own
abbrev pub IsReference : Missing → Type 0
IsReference (Twice urn) = ⊥
IsReference _ = Unit

-- what holds of each kind of reference holds of each of a row
pub each_provider : (P : Missing → Type 0) (row : Entry) → ((urn : List ℕ) → P (Parent urn)) → ((urn : List ℕ) → P (Dependency urn))
    → ((urn : List ℕ) → P (DeletedWith urn)) → ((reference : ProviderRef) → row.provider ≡ Some reference → P (Provider reference))
    → Each P (refs row)
each_provider P row parent dependency deleter provider =
    each_append P (optional_refs Parent row.parent) _ (optional Parent row.parent (λ urn is. parent urn))
    (each_append P (optional_refs Provider row.provider) _ (optional Provider row.provider provider)
    (each_append P (map Dependency row.dependencies) _ (each_map Dependency P row.dependencies (each_always (λ urn. P (Dependency urn)) dependency row.dependencies))
    (each_append P (map Dependency (property_urns row.property_dependencies)) (optional_refs DeletedWith row.deleted_with)
    (each_map Dependency P (property_urns row.property_dependencies) (each_always (λ urn. P (Dependency urn)) dependency (property_urns row.property_dependencies)))
    (optional DeletedWith row.deleted_with (λ urn is. deleter urn)))))
  where
    optional : {X : Type 0} (kind : X → Missing) (o : Option X) → ((x : X) → o ≡ Some x → P (kind x)) → Each P (optional_refs kind o)
    optional kind None all = tt
    optional kind (Some x) all = (all x refl, tt)

pub refs_are : (row : Entry) → Each IsReference (refs row)
refs_are row = each_provider IsReference row (λ urn. tt) (λ urn. tt) (λ urn. tt) (λ reference is. tt)

-- what is met is found among the rows
met_among : (rows : List Entry) (want : Missing) → IsReference want → is_met rows want ≡ true → is_among rows want ≡ true
met_among rows (Twice urn) is h = absurd is
met_among rows (Parent urn) is h = h
met_among rows (Provider reference) is h = h
met_among rows (Dependency urn) is h = h
met_among rows (DeletedWith urn) is h = h

all_among : (rows : List Entry) (wants : List Missing) → Each IsReference wants → AreMet rows wants → list_all (is_among rows) wants ≡ true
all_among rows [] are h = refl
all_among rows (want ∷ wants) are h =
    ap (λ (b : Bool). b && list_all (is_among rows) wants) (met_among rows want are.0 h.0) ∙ all_among rows wants are.1 h.1

-- a row whose references are met finds them
pub found_by_met : (rows : List Entry) (row : Entry) → AreMet rows (refs row) → finds_references rows row ≡ true
found_by_met rows row h = all_among rows (refs row) (refs_are row) h

-- ---- turned references

-- a reference with its URN changed
abbrev pub changed_reference : (List ℕ → List ℕ) → Missing → Missing
changed_reference change (Twice urn) = Twice urn
changed_reference change (Parent urn) = Parent (change urn)
changed_reference change (Provider reference) = Provider (record reference { urn = change reference.urn })
changed_reference change (Dependency urn) = Dependency (change urn)
changed_reference change (DeletedWith urn) = DeletedWith (change urn)

map_append : {X Y : Type 0} (f : X → Y) (xs ys : List X) → map f (xs ++ ys) ≡ map f xs ++ map f ys
map_append f [] ys = refl
map_append {Y = Y} f (x ∷ xs) ys = ap (λ (all : List Y). f x ∷ all) (map_append f xs ys)

optional_changed : {X : Type 0} (kind : X → Missing) (alter : X → X) (change : Missing → Missing)
    → ((x : X) → kind (alter x) ≡ change (kind x)) → (o : Option X)
    → optional_refs kind (option_map alter o) ≡ map change (optional_refs kind o)
optional_changed kind alter change same None = refl
optional_changed kind alter change same (Some x) = ap (λ (want : Missing). want ∷ []) (same x)

urns_changed : (change : List ℕ → List ℕ) (urns : List (List ℕ))
    → map Dependency (map change urns) ≡ map (changed_reference change) (map Dependency urns)
urns_changed change [] = refl
urns_changed change (urn ∷ urns) = ap (λ (all : List Missing). Dependency (change urn) ∷ all) (urns_changed change urns)

properties_changed : (change : List ℕ → List ℕ) (pairs : List Keyed)
    → property_urns (map (keyed_by change) pairs) ≡ map change (property_urns pairs)
properties_changed change [] = refl
properties_changed change (pair ∷ pairs) =
    ap (λ (all : List (List ℕ)). map change pair.1 ++ all) (properties_changed change pairs)
    ∙ sym (map_append change pair.1 (property_urns pairs))

-- a turned row has its references turned
pub refs_turned : (turns : List Turning) (entry later : Entry) → IsTurned turns entry later
    → refs later ≡ map (changed_reference (turned_by turns)) (refs entry)
refs_turned turns entry later h =
    let change : Missing → Missing = changed_reference (turned_by turns) in
    let parents : optional_refs Parent later.parent ≡ map change (optional_refs Parent entry.parent) =
    ap (λ (o : Option (List ℕ)). optional_refs Parent o) h.parent ∙ optional_changed Parent (turned_by turns) change (λ urn. refl) entry.parent in
    let providers : optional_refs Provider later.provider ≡ map change (optional_refs Provider entry.provider) =
    ap (λ (o : Option ProviderRef). optional_refs Provider o) h.provider
    ∙ optional_changed Provider (λ (reference : ProviderRef). record reference { urn = turned_by turns reference.urn }) change (λ reference. refl) entry.provider in
    let direct : map Dependency later.dependencies ≡ map change (map Dependency entry.dependencies) =
    ap (λ (urns : List (List ℕ)). map Dependency urns) h.dependencies ∙ urns_changed (turned_by turns) entry.dependencies in
    let by_property : map Dependency (property_urns later.property_dependencies) ≡ map change (map Dependency (property_urns entry.property_dependencies)) =
    ap (λ (pairs : List Keyed). map Dependency (property_urns pairs)) h.property_dependencies
    ∙ ap (λ (urns : List (List ℕ)). map Dependency urns) (properties_changed (turned_by turns) entry.property_dependencies)
    ∙ urns_changed (turned_by turns) (property_urns entry.property_dependencies) in
    let deleter : optional_refs DeletedWith later.deleted_with ≡ map change (optional_refs DeletedWith entry.deleted_with) =
    ap (λ (o : Option (List ℕ)). optional_refs DeletedWith o) h.deleted_with
    ∙ optional_changed DeletedWith (turned_by turns) change (λ urn. refl) entry.deleted_with in
    joined change (optional_refs Parent entry.parent) _ parents
    (joined change (optional_refs Provider entry.provider) _ providers
    (joined change (map Dependency entry.dependencies) _ direct
    (joined change (map Dependency (property_urns entry.property_dependencies)) (optional_refs DeletedWith entry.deleted_with) by_property deleter)))
  where
    joined : (change : Missing → Missing) (xs ys : List Missing) {first others : List Missing} → first ≡ map change xs → others ≡ map change ys
        → first ++ others ≡ map change (xs ++ ys)
    joined change xs ys one more = ap₂ (λ (a b : List Missing). a ++ b) one more ∙ sym (map_append change xs ys)

-- ---- which row a reference names

-- each reference of a row names the rows that meet it
pub refs_name : (row : Entry) → Each (λ (want : Missing). (other : Entry) → meets want other ≡ true → names_row row other ≡ true) (refs row)
refs_name row = each_names (λ (want : Missing) (other : Entry). meets want other) (refs row)
