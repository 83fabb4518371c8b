-- The spelling of a value whose whole numbers fit has such numbers alone.
use Rattle.std.proofs.Common.{◌≡◌, ℕ, true, Bool, List, [], ◌∷◌, map, refl, sym, subst, ◌∙◌}
use Rattle.std.proofs.lemmas.Bool.{and_parts}
use Rattle.std.specs.List.{list_all}
use Rattle.pl_value.specs.declared.value.Value.{Value, roll-Value}
use Rattle.pl_value.specs.declared.value.Value.TheOpen.{Value-F}
use Rattle.pl_value.specs.declared.value.Value.TheFolds.{ind-Value, map-Value, fold-roll-Value}
use Rattle.serde_json.specs.Data.{Data}
use Rattle.pl_value.proofs.Kept.{Having, opened, values_of, pairs_of}
use Rattle.pl_json.specs.Fits.{wholes_fit, wholes_fit_level}
use Rattle.pl_json.specs.Spelled.{spelled, spelled_level, spelled_items, spelled_members}
use Rattle.pl_json.proofs.TextTells.{HasWholes, ItemsHaveWholes, MembersHaveWholes}

abbrev Spells : Value → Type 0
Spells one = wholes_fit one ≡ true → HasWholes (spelled one)

abbrev Kept : Type 0
Kept = Having Spells

items_have_wholes : (kept : List Kept) → list_all (λ fit. fit) (map wholes_fit (values_of kept)) ≡ true
    → ItemsHaveWholes (spelled_items (values_of kept))
items_have_wholes [] all = tt
items_have_wholes (one ∷ more) all =
    let parts = and_parts (wholes_fit one.0) (list_all (λ fit. fit) (map wholes_fit (values_of more))) all in
    (one.1 parts.0, items_have_wholes more parts.1)

abbrev pub fitting : List (List ℕ × Value) → List (List ℕ × Bool)
fitting fields = map (λ field. (field.0, wholes_fit field.1)) fields

members_have_wholes : (kept : List (List ℕ × Kept)) → list_all (λ field. field.1) (fitting (pairs_of kept)) ≡ true
    → MembersHaveWholes (spelled_members (pairs_of kept))
members_have_wholes [] all = tt
members_have_wholes (field ∷ more) all =
    let parts = and_parts (wholes_fit field.1.0) (list_all (λ one. one.1) (fitting (pairs_of more))) all in
    (field.1.1 parts.0, members_have_wholes more parts.1)

wholes_level : (y : Value-F Kept) → wholes_fit_level (map-Value Value Bool wholes_fit (opened y)) ≡ true
    → HasWholes (spelled_level (map-Value Value Data spelled (opened y)))
wholes_level Value-F.Null fit = tt
wholes_level (Value-F.Flag flag) fit = tt
wholes_level (Value-F.Whole whole) fit = (whole, fit, refl)
wholes_level (Value-F.Text text) fit = tt
wholes_level (Value-F.List kept) fit = items_have_wholes kept fit
wholes_level (Value-F.Object kept) fit = members_have_wholes kept fit
wholes_level (Value-F.Secret kept) fit = (tt, (tt, tt))
wholes_level Value-F.Unknown fit = tt

spells_level : (y : Value-F Kept) → Spells (roll-Value (opened y))
spells_level y fit =
    subst HasWholes (sym (fold-roll-Value Data spelled_level (opened y)))
    (wholes_level y (sym (fold-roll-Value Bool wholes_fit_level (opened y)) ∙ fit))

pub HasWholes-spelled : (one : Value) → Spells one
HasWholes-spelled = ind-Value Spells (λ x y is. subst (λ (z : Value-F Value). Spells (roll-Value z)) is (spells_level y))
