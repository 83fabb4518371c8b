-- The keys in the spelling of a value rise, and it nests no deeper than the value.
use Rattle.std.proofs.Common.{◌≡◌, ℕ, ◌≤◌, true, List, [], ◌∷◌, map, refl, sym, ap, subst, ◌∙◌, arith}
use Rattle.std.proofs.lemmas.Bool.{and_parts}
use Rattle.std.specs.List.{list_all}
use Rattle.pl_value.proofs.FieldParts.{are_fields-parts}
use Rattle.pl_value.proofs.Levels.{is_value-List, is_value-Object}
use Rattle.pl_value.specs.Inside.{depth, depth_level, greatest}
use Rattle.pl_value.specs.IsValue.{is_value, are_values, are_fields, each_is_value}
use Rattle.pl_value.specs.Keys.{are_rising, is_below, keys_of}
use Rattle.pl_value.specs.Marks.{secret_key}
use Rattle.pl_value.specs.declared.value.Value.{Value, roll-Value}
use Rattle.pl_value.specs.declared.value.Value.TheOpen.{Value-F}
use Rattle.pl_value.specs.declared.value.Value.TheVariants as value
use Rattle.pl_value.specs.declared.value.Value.TheFolds.{ind-Value, map-Value, fold-roll-Value}
use Rattle.serde_json.specs.Data.{Data, depth as nesting, items_depth, members_depth}
use Rattle.pl_json.proofs.ReadBack.{AllAbove, Rises, ItemsRise, MembersRise}
use Rattle.pl_json.specs.Spelled.{spelled, spelled_level, spelled_items, spelled_members, plaintext_key}

abbrev spelled_of : Value-F Value → Data
spelled_of x = spelled_level (map-Value Value Data spelled x)

-- ---- rising keys

abbrev HasRising : Value → Type 0
HasRising one = is_value one ≡ true → Rises (spelled one)

abbrev Rising : Type 0
Rising = (one : Value) × HasRising one

abbrev opened_rising : Value-F Rising → Value-F Value
opened_rising y = map-Value Rising Value (λ e. e.0) y

abbrev pairs_rising : List (List ℕ × Rising) → List (List ℕ × Value)
pairs_rising kept = map (λ field. (field.0, field.1.0)) kept

items_rise : (kept : List Rising) → are_values (map (λ (e : Rising). e.0) kept) ≡ true → ItemsRise (spelled_items (map (λ (e : Rising). e.0) kept))
items_rise [] all = tt
items_rise (one ∷ more) all =
    let parts = and_parts (is_value one.0) (are_values (map (λ (e : Rising). e.0) more)) all in
    (one.1 parts.0, items_rise more parts.1)

all_above : (low : List ℕ) (fields : List (List ℕ × Value)) → list_all (is_below low) (keys_of fields) ≡ true → AllAbove low (spelled_members fields)
all_above low [] all = tt
all_above low (field ∷ more) all =
    let parts = and_parts (is_below low field.0) (list_all (is_below low) (keys_of more)) all in
    (parts.0, all_above low more parts.1)

members_rise : (kept : List (List ℕ × Rising)) → are_rising (keys_of (pairs_rising kept)) ≡ true → each_is_value (pairs_rising kept) ≡ true
    → MembersRise (spelled_members (pairs_rising kept))
members_rise [] rising all = tt
members_rise (field ∷ more) rising all =
    let keys = and_parts (list_all (is_below field.0) (keys_of (pairs_rising more))) (are_rising (keys_of (pairs_rising more))) rising in
    let parts = and_parts (is_value field.1.0) (each_is_value (pairs_rising more)) all in
    (field.1.1 parts.0, all_above field.0 (pairs_rising more) keys.0, members_rise more keys.1 parts.1)

secret_rises : is_below secret_key plaintext_key ≡ true
unfolding secret_key plaintext_key
secret_rises = refl

rising_level : (y : Value-F Rising) → is_value (roll-Value (opened_rising y)) ≡ true → Rises (spelled_of (opened_rising y))
rising_level Value-F.Null is = tt
rising_level (Value-F.Flag flag) is = tt
rising_level (Value-F.Whole whole) is = tt
rising_level (Value-F.Text text) is = tt
rising_level (Value-F.List kept) is =
    let values = map (λ (e : Rising). e.0) kept in
    items_rise kept (sym (is_value-List values) ∙ ap is_value (sym (value.rolls-List values)) ∙ is)
rising_level (Value-F.Object kept) is =
    let fields = pairs_rising kept in
    let sound : are_fields fields ≡ true = sym (is_value-Object fields) ∙ ap is_value (sym (value.rolls-Object fields)) ∙ is in
    let parts = are_fields-parts fields sound in
    members_rise kept parts.0 parts.1
rising_level (Value-F.Secret kept) is = (tt, (secret_rises, tt), (tt, tt, tt))
rising_level Value-F.Unknown is = tt

has_rising : (y : Value-F Rising) → HasRising (roll-Value (opened_rising y))
has_rising y is = subst Rises (sym (fold-roll-Value Data spelled_level (opened_rising y))) (rising_level y is)

pub spelled-rises : (one : Value) → is_value one ≡ true → Rises (spelled one)
spelled-rises = ind-Value HasRising (λ x y is. subst (λ (z : Value-F Value). HasRising (roll-Value z)) is (has_rising y))

-- ---- nesting

abbrev IsFlat : Value → Type 0
IsFlat one = nesting (spelled one) ≤ depth one

abbrev Flat : Type 0
Flat = (one : Value) × IsFlat one

abbrev opened_flat : Value-F Flat → Value-F Value
opened_flat y = map-Value Flat Value (λ e. e.0) y

abbrev pairs_flat : List (List ℕ × Flat) → List (List ℕ × Value)
pairs_flat kept = map (λ field. (field.0, field.1.0)) kept

items_flat : (kept : List Flat) → items_depth (spelled_items (map (λ (e : Flat). e.0) kept)) ≤ greatest (map depth (map (λ (e : Flat). e.0) kept))
items_flat [] = omega arith
items_flat (one ∷ more) =
    let here : nesting (spelled one.0) ≤ depth one.0 = one.1 in
    let later = items_flat more in
    omega arith

members_flat : (kept : List (List ℕ × Flat)) → members_depth (spelled_members (pairs_flat kept)) ≤ greatest (map (λ (field : List ℕ × ℕ). field.1) (map (λ field. (field.0, depth field.1)) (pairs_flat kept)))
members_flat [] = omega arith
members_flat (field ∷ more) =
    let here : nesting (spelled field.1.0) ≤ depth field.1.0 = field.1.1 in
    let later = members_flat more in
    omega arith

flat_level : (y : Value-F Flat) → nesting (spelled_of (opened_flat y)) ≤ depth_level (map-Value Value ℕ depth (opened_flat y))
flat_level Value-F.Null = omega arith
flat_level (Value-F.Flag flag) = omega arith
flat_level (Value-F.Whole whole) = omega arith
flat_level (Value-F.Text text) = omega arith
flat_level (Value-F.List kept) = omega (arith, items_flat kept)
flat_level (Value-F.Object kept) = omega (arith, members_flat kept)
flat_level (Value-F.Secret kept) = omega arith
flat_level Value-F.Unknown = omega arith

is_flat : (y : Value-F Flat) → IsFlat (roll-Value (opened_flat y))
is_flat y =
    let spells = ap nesting (fold-roll-Value Data spelled_level (opened_flat y)) in
    let deep = fold-roll-Value ℕ depth_level (opened_flat y) in
    let level = flat_level y in
    subst (λ n. n ≤ depth (roll-Value (opened_flat y))) (sym spells) (subst (λ n. nesting (spelled_of (opened_flat y)) ≤ n) (sym deep) level)

pub spelled-nests : (one : Value) → nesting (spelled one) ≤ depth one
spelled-nests = ind-Value IsFlat (λ x y is. subst (λ (z : Value-F Value). IsFlat (roll-Value z)) is (is_flat y))
