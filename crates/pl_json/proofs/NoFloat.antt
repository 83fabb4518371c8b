-- No spelling of a value has a float.
use Rattle.std.proofs.Common.{◌≡◌, ℕ, ℤ, pos, negsuc, false, List, [], ◌∷◌, refl, ap, subst, ◌∙◌}
use Rattle.pl_value.specs.declared.value.Value.{Value, roll-Value}
use Rattle.pl_value.specs.declared.value.Value.TheOpen.{Value-F}
use Rattle.pl_value.specs.declared.value.Value.TheFolds.{ind-Value, map-Value, fold-roll-Value}
use Rattle.serde_json.specs.Data.{Data}
use Rattle.serde_json.specs.Find.{of_integer, is_float}
use Rattle.serde_json.specs.Written.{has_float, items_have_float, members_have_float}
use Rattle.pl_value.proofs.Kept.{Having, opened, values_of, pairs_of}
use Rattle.pl_json.specs.Spelled.{spelled, spelled_level, spelled_items, spelled_members}

abbrev HasNone : Value → Type 0
HasNone one = has_float (spelled one) ≡ false

abbrev Kept : Type 0
Kept = Having HasNone

of_integer_is_whole : (whole : ℤ) → is_float (of_integer whole) ≡ false
of_integer_is_whole (pos n) = refl
of_integer_is_whole (negsuc n) = refl

items_have_none : (kept : List Kept) → items_have_float (spelled_items (values_of kept)) ≡ false
items_have_none [] = refl
items_have_none (one ∷ more) = rw (one.1) (items_have_none more)

members_have_none : (kept : List (List ℕ × Kept)) → members_have_float (spelled_members (pairs_of kept)) ≡ false
members_have_none [] = refl
members_have_none (field ∷ more) = rw (field.1.1) (members_have_none more)

none_level : (y : Value-F Kept) → has_float (spelled_level (map-Value Value Data spelled (opened y))) ≡ false
none_level Value-F.Null = refl
none_level (Value-F.Flag flag) = refl
none_level (Value-F.Whole whole) = of_integer_is_whole whole
none_level (Value-F.Text text) = refl
none_level (Value-F.List kept) = items_have_none kept
none_level (Value-F.Object kept) = members_have_none kept
none_level (Value-F.Secret kept) = refl
none_level Value-F.Unknown = refl

has_none : (y : Value-F Kept) → HasNone (roll-Value (opened y))
has_none y = ap has_float (fold-roll-Value Data spelled_level (opened y)) ∙ none_level y

pub has_float-spelled : (one : Value) → has_float (spelled one) ≡ false
has_float-spelled = ind-Value HasNone (λ x y is. subst (λ (z : Value-F Value). HasNone (roll-Value z)) is (has_none y))

-- the same of the fields of an object
pub has_float-spelled_members : (fields : List (List ℕ × Value)) → members_have_float (spelled_members fields) ≡ false
has_float-spelled_members [] = refl
has_float-spelled_members (field ∷ more) = rw (has_float-spelled field.1) (has_float-spelled_members more)
