-- The equations of what is said of a value, one for each variant that is asked for.
use Rattle.std.proofs.Common.{◌≡◌, ℕ, ℤ, true, ◌+◌, Bool, not, ◌&&◌, bytes_eq, List, [], ◌∷◌, map, refl, sym, ap, ◌∙◌}
use Rattle.std.proofs.lemmas.List.Folds.{list_all-map}
use Rattle.pl_lemmas.proofs.Lists.{any_mapped}
use Rattle.pl_value.specs.Inside.{has_unknown, has_unknown_level, any_unknown, any_field_unknown, depth, depth_level, greatest, greatest_depth, greatest_field_depth}
use Rattle.pl_value.specs.IsValue.{is_value, is_value_level, are_values, are_fields, may_stand_under}
use Rattle.pl_value.specs.Keys.{are_rising}
use Rattle.pl_value.specs.Marks.{unknown_text, shown_secret}
use Rattle.pl_value.specs.Shown.{masked, masked_level, masked_fields}
use Rattle.pl_value.specs.declared.value.Value.{Value}
use Rattle.pl_value.specs.declared.value.Value.TheOpen.{Value-F}
use Rattle.pl_value.specs.declared.value.Value.TheVariants as value
use Rattle.pl_value.specs.declared.value.Value.TheFolds.{fold-roll-Value, para-roll-Value}

pub map-map : {X Y Z : Type 0} (g : Y → Z) (h : X → Y) (xs : List X) → map g (map h xs) ≡ map (λ x. g (h x)) xs
map-map g h [] = refl
map-map g h (x ∷ xs) = ap (λ r. g (h x) ∷ r) (map-map g h xs)

pub has_unknown-List : (values : List Value) → has_unknown (value.List values) ≡ any_unknown values
has_unknown-List values =
    ap has_unknown (sym (value.rolls-List values)) ∙ fold-roll-Value Bool has_unknown_level (Value-F.List values)
    ∙ any_mapped (λ b. b) has_unknown values

pub has_unknown-Object : (fields : List (List ℕ × Value)) → has_unknown (value.Object fields) ≡ any_field_unknown fields
has_unknown-Object fields =
    ap has_unknown (sym (value.rolls-Object fields)) ∙ fold-roll-Value Bool has_unknown_level (Value-F.Object fields)
    ∙ any_mapped (λ (field : List ℕ × Bool). field.1) (λ field. (field.0, has_unknown field.1)) fields

pub depth-Null : depth value.Null ≡ 0
depth-Null = ap depth (sym value.rolls-Null) ∙ fold-roll-Value ℕ depth_level Value-F.Null

pub depth-Flag : (flag : Bool) → depth (value.Flag flag) ≡ 0
depth-Flag flag = ap depth (sym (value.rolls-Flag flag)) ∙ fold-roll-Value ℕ depth_level (Value-F.Flag flag)

pub depth-Whole : (number : ℤ) → depth (value.Whole number) ≡ 0
depth-Whole number = ap depth (sym (value.rolls-Whole number)) ∙ fold-roll-Value ℕ depth_level (Value-F.Whole number)

pub depth-Unknown : depth value.Unknown ≡ 0
depth-Unknown = ap depth (sym value.rolls-Unknown) ∙ fold-roll-Value ℕ depth_level Value-F.Unknown

pub depth-Text : (text : List ℕ) → depth (value.Text text) ≡ 0
depth-Text text = ap depth (sym (value.rolls-Text text)) ∙ fold-roll-Value ℕ depth_level (Value-F.Text text)

pub depth-List : (values : List Value) → depth (value.List values) ≡ greatest_depth values + 1
depth-List values = ap depth (sym (value.rolls-List values)) ∙ fold-roll-Value ℕ depth_level (Value-F.List values)

pub depth-Object : (fields : List (List ℕ × Value)) → depth (value.Object fields) ≡ greatest_field_depth fields + 1
depth-Object fields =
    ap depth (sym (value.rolls-Object fields)) ∙ fold-roll-Value ℕ depth_level (Value-F.Object fields)
    ∙ ap (λ (depths : List ℕ). greatest depths + 1) (map-map (λ (field : List ℕ × ℕ). field.1) (λ field. (field.0, depth field.1)) fields)

pub depth-Secret : (inner : Value) → depth (value.Secret inner) ≡ depth inner + 1
depth-Secret inner = ap depth (sym (value.rolls-Secret inner)) ∙ fold-roll-Value ℕ depth_level (Value-F.Secret inner)

pub is_value-Null : is_value value.Null ≡ true
is_value-Null = ap is_value (sym value.rolls-Null) ∙ para-roll-Value Bool is_value_level Value-F.Null

pub is_value-Flag : (flag : Bool) → is_value (value.Flag flag) ≡ true
is_value-Flag flag = ap is_value (sym (value.rolls-Flag flag)) ∙ para-roll-Value Bool is_value_level (Value-F.Flag flag)

pub is_value-Whole : (number : ℤ) → is_value (value.Whole number) ≡ true
is_value-Whole number = ap is_value (sym (value.rolls-Whole number)) ∙ para-roll-Value Bool is_value_level (Value-F.Whole number)

pub is_value-Unknown : is_value value.Unknown ≡ true
is_value-Unknown = ap is_value (sym value.rolls-Unknown) ∙ para-roll-Value Bool is_value_level Value-F.Unknown

pub is_value-Text : (text : List ℕ) → is_value (value.Text text) ≡ not (bytes_eq text unknown_text)
is_value-Text text = ap is_value (sym (value.rolls-Text text)) ∙ para-roll-Value Bool is_value_level (Value-F.Text text)

pub is_value-List : (values : List Value) → is_value (value.List values) ≡ are_values values
is_value-List values =
    ap is_value (sym (value.rolls-List values)) ∙ para-roll-Value Bool is_value_level (Value-F.List values)
    ∙ list_all-map (λ (seen : Value × Bool). seen.1) (λ one. (one, is_value one)) values

abbrev seen : List ℕ × Value → List ℕ × (Value × Bool)
seen field = (field.0, (field.1, is_value field.1))

pub is_value-Object : (fields : List (List ℕ × Value)) → is_value (value.Object fields) ≡ are_fields fields
is_value-Object fields =
    ap is_value (sym (value.rolls-Object fields)) ∙ para-roll-Value Bool is_value_level (Value-F.Object fields)
    ∙ (λ i. are_rising (map-map (λ (field : List ℕ × (Value × Bool)). field.0) seen fields i)
    && list_all-map (λ (field : List ℕ × (Value × Bool)). field.1.1) seen fields i
    && list_all-map (λ (field : List ℕ × (Value × Bool)). may_stand_under field.0 field.1.0) seen fields i)

pub is_value-Secret : (inner : Value) → is_value (value.Secret inner) ≡ is_value inner
is_value-Secret inner = ap is_value (sym (value.rolls-Secret inner)) ∙ para-roll-Value Bool is_value_level (Value-F.Secret inner)

pub masked-Null : masked value.Null ≡ value.Null
masked-Null = ap masked (sym value.rolls-Null) ∙ fold-roll-Value Value masked_level Value-F.Null

pub masked-Unknown : masked value.Unknown ≡ value.Unknown
masked-Unknown = ap masked (sym value.rolls-Unknown) ∙ fold-roll-Value Value masked_level Value-F.Unknown

pub masked-Flag : (flag : Bool) → masked (value.Flag flag) ≡ value.Flag flag
masked-Flag flag = ap masked (sym (value.rolls-Flag flag)) ∙ fold-roll-Value Value masked_level (Value-F.Flag flag)

pub masked-Whole : (number : ℤ) → masked (value.Whole number) ≡ value.Whole number
masked-Whole number = ap masked (sym (value.rolls-Whole number)) ∙ fold-roll-Value Value masked_level (Value-F.Whole number)

pub masked-Text : (text : List ℕ) → masked (value.Text text) ≡ value.Text text
masked-Text text = ap masked (sym (value.rolls-Text text)) ∙ fold-roll-Value Value masked_level (Value-F.Text text)

pub masked-List : (values : List Value) → masked (value.List values) ≡ value.List (map masked values)
masked-List values = ap masked (sym (value.rolls-List values)) ∙ fold-roll-Value Value masked_level (Value-F.List values)

pub masked-Object : (fields : List (List ℕ × Value)) → masked (value.Object fields) ≡ value.Object (masked_fields fields)
masked-Object fields = ap masked (sym (value.rolls-Object fields)) ∙ fold-roll-Value Value masked_level (Value-F.Object fields)

pub masked-Secret : (inner : Value) → masked (value.Secret inner) ≡ value.Text shown_secret
masked-Secret inner = ap masked (sym (value.rolls-Secret inner)) ∙ fold-roll-Value Value masked_level (Value-F.Secret inner)
