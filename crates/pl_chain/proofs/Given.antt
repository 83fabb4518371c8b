-- What an index of rows says of the references of a row.
use Rattle.std.proofs.Common.{◌≡◌, ◌||◌, Bool, true, false, List, [], ◌∷◌, ◌++◌, map, refl, ap, ◌∙◌}
use Rattle.std.proofs.lemmas.List.Folds.{list_any-append}
use Rattle.std.specs.List.{flat_map, list_any}
use Rattle.pl_lemmas.proofs.Lists.{any_mapped}
use Rattle.pl_state.specs.declared.entry.Entry.{Entry}
use Rattle.pl_state.specs.declared.fault.Missing.{Missing}
use Rattle.pl_state.specs.declared.fault.Missing.TheVariants.{Twice, Parent, Provider, Dependency, DeletedWith}
use Rattle.pl_state.specs.References.{meets, optional_refs, property_urns, refs}
use Rattle.pl_sound.specs.declared.seen.Seen.{Seen}
use Rattle.pl_sound.specs.Seen.{gives, has_text, HasOneMore}
use Rattle.pl_sound.specs.Sound.{is_met}
use Rattle.pl_chain.specs.Given.{is_given}

list_any-flat_map : {X Y : Type 0} (p : Y → Bool) (f : X → List Y) (xs : List X) → list_any p (flat_map f xs) ≡ list_any (λ x. list_any p (f x)) xs
list_any-flat_map p f [] = refl
list_any-flat_map p f (x ∷ xs) = list_any-append p (f x) (flat_map f xs) ∙ ap (λ (b : Bool). list_any p (f x) || b) (list_any-flat_map p f xs)

regroup : (a b c d e : Bool) → (a || (b || (c || (d || e)))) ≡ (a || b || c || d || e)
regroup true b c d e = refl
regroup false true c d e = refl
regroup false false true d e = refl
regroup false false false true e = refl
regroup false false false false e = refl

-- whether a reference of a row is met, kind by kind
abbrev pub refers_kinds : Seen → Entry → Bool
refers_kinds seen row =
    list_any (is_given seen) (optional_refs Parent row.parent)
    || list_any (is_given seen) (optional_refs Provider row.provider)
    || list_any (has_text seen.urns) row.dependencies
    || list_any (λ pair. list_any (has_text seen.urns) pair.1) row.property_dependencies
    || list_any (is_given seen) (optional_refs DeletedWith row.deleted_with)

-- a reference of a row is met where one of some kind is
pub refers-kinds : (seen : Seen) (row : Entry) → list_any (is_given seen) (refs row) ≡ refers_kinds seen row
refers-kinds seen row =
    let given : Missing → Bool = is_given seen in
    let parent : List Missing = optional_refs Parent row.parent in
    let provider : List Missing = optional_refs Provider row.provider in
    let urns : List Missing = map Dependency row.dependencies in
    let properties : List Missing = map Dependency (property_urns row.property_dependencies) in
    let deleter : List Missing = optional_refs DeletedWith row.deleted_with in
    let any_urn : Bool = list_any (has_text seen.urns) row.dependencies in
    let any_property : Bool = list_any (λ pair. list_any (has_text seen.urns) pair.1) row.property_dependencies in
    let of_urns : list_any given urns ≡ any_urn = any_mapped given Dependency row.dependencies in
    let of_properties : list_any given properties ≡ any_property =
    any_mapped given Dependency (property_urns row.property_dependencies)
    ∙ list_any-flat_map (has_text seen.urns) (λ pair. pair.1) row.property_dependencies in
    list_any-append given parent (provider ++ (urns ++ (properties ++ deleter)))
    ∙ ap (λ (b : Bool). list_any given parent || b) (list_any-append given provider (urns ++ (properties ++ deleter))
    ∙ ap (λ (b : Bool). list_any given provider || b) (list_any-append given urns (properties ++ deleter)
    ∙ ap (λ (b : Bool). b || list_any given (properties ++ deleter)) of_urns
    ∙ ap (λ (b : Bool). any_urn || b) (list_any-append given properties deleter
    ∙ ap (λ (b : Bool). b || list_any given deleter) of_properties)))
    ∙ regroup (list_any given parent) (list_any given provider) any_urn any_property (list_any given deleter)

-- an index of no rows meets no reference
pub given-none : (seen : Seen) → ((want : Missing) → gives seen want ≡ is_met [] want) → (want : Missing) → is_given seen want ≡ false
given-none seen same (Twice urn) = refl
given-none seen same (Parent urn) = same (Parent urn)
given-none seen same (Provider reference) = same (Provider reference)
given-none seen same (Dependency urn) = same (Dependency urn)
given-none seen same (DeletedWith urn) = same (DeletedWith urn)

-- an index of one more row meets what that row or the index before does
pub given-more : (old new : Seen) (row : Entry) → HasOneMore old new row → (want : Missing) → is_given new want ≡ (meets want row || is_given old want)
given-more old new row h (Twice urn) = refl
given-more old new row h (Parent urn) = h.urns urn
given-more old new row h (Provider reference) = h.things reference
given-more old new row h (Dependency urn) = h.urns urn
given-more old new row h (DeletedWith urn) = h.urns urn
