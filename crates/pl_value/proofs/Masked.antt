-- What is shown of a value is a value.
use Rattle.std.proofs.Common.{◌≡◌, ℕ, true, false, not, ◌||◌, List, [], ◌∷◌, map, bytes_eq, refl, sym, ap, subst, ◌∙◌}
use Rattle.std.proofs.lemmas.Bool.{and_parts, and_from}
use Rattle.pl_value.specs.IsValue.{is_value, is_unmarked, are_fields, are_values, may_stand_under, each_is_value, each_may_stand}
use Rattle.pl_value.specs.Keys.{are_rising}
use Rattle.pl_value.specs.Marks.{secret_key, shown_secret, unknown_text}
use Rattle.pl_value.specs.Shown.{masked, masked_fields}
use Rattle.pl_value.specs.declared.value.Value.{Value, roll-Value, out-Value, roll-out-Value}
use Rattle.pl_value.specs.declared.value.Value.TheOpen.{Value-F}
use Rattle.pl_value.specs.declared.value.Value.TheVariants as value
use Rattle.pl_value.specs.declared.value.Value.TheFolds.{ind-Value, map-Value}
use Rattle.pl_value.proofs.Levels.{map-map, is_value-Text, is_value-List, is_value-Object, masked-Null, masked-Unknown, masked-Flag, masked-Whole, masked-Text, masked-List, masked-Object, masked-Secret}
use Rattle.pl_value.proofs.FieldParts.{Pairs, are_fields-parts, are_fields-from}

abbrev pub StaysUnmarked : Value → Type 0
StaysUnmarked one = is_unmarked one ≡ true → is_unmarked (masked one) ≡ true

unmarked_level : (x : Value-F Value) → StaysUnmarked (roll-Value x)
unmarked_level Value-F.Null = subst StaysUnmarked (sym value.rolls-Null) (λ h. cc)
unmarked_level (Value-F.Flag flag) = subst StaysUnmarked (sym (value.rolls-Flag flag)) (λ h. cc)
unmarked_level (Value-F.Whole number) = subst StaysUnmarked (sym (value.rolls-Whole number)) (λ h. cc)
unmarked_level (Value-F.Text text) = subst StaysUnmarked (sym (value.rolls-Text text)) (λ h. ap is_unmarked (masked-Text text) ∙ h)
unmarked_level (Value-F.List values) = subst StaysUnmarked (sym (value.rolls-List values)) (λ h. cc)
unmarked_level (Value-F.Object fields) = subst StaysUnmarked (sym (value.rolls-Object fields)) (λ h. cc)
unmarked_level (Value-F.Secret inner) = subst StaysUnmarked (sym (value.rolls-Secret inner)) (λ h. cc)
unmarked_level Value-F.Unknown = subst StaysUnmarked (sym value.rolls-Unknown) (λ h. ap is_unmarked masked-Unknown ∙ h)

is_unmarked-masked : (one : Value) → StaysUnmarked one
is_unmarked-masked one = subst StaysUnmarked (roll-out-Value one) (unmarked_level (out-Value one))

may_stand-masked : (key : List ℕ) (one : Value) → may_stand_under key one ≡ true → may_stand_under key (masked one) ≡ true
may_stand-masked key one may =
    (elim (not (bytes_eq key secret_key)) as (λ other. (other || is_unmarked one) ≡ true → (other || is_unmarked (masked one)) ≡ true) [
      | true ↦ λ h. refl
      | false ↦ λ h. is_unmarked-masked one h
    ]) may

each_may_stand-masked : (fields : Pairs) → each_may_stand fields ≡ true → each_may_stand (masked_fields fields) ≡ true
each_may_stand-masked [] may = refl
each_may_stand-masked (field ∷ more) may =
    let parts = and_parts (may_stand_under field.0 field.1) (each_may_stand more) may in
    and_from _ _ (may_stand-masked field.0 field.1 parts.0) (each_may_stand-masked more parts.1)

abbrev pub StaysValue : Value → Type 0
StaysValue one = is_value one ≡ true → is_value (masked one) ≡ true

abbrev Kept : Type 0
Kept = (one : Value) × StaysValue one

are_values-masked : (values : List Kept) → are_values (map (λ e. e.0) values) ≡ true → are_values (map masked (map (λ e. e.0) values)) ≡ true
are_values-masked [] all = refl
are_values-masked (one ∷ more) all =
    let parts = and_parts (is_value one.0) (are_values (map (λ e. e.0) more)) all in
    and_from _ _ (one.1 parts.0) (are_values-masked more parts.1)

abbrev opened : List (List ℕ × Kept) → Pairs
opened fields = map (λ field. (field.0, field.1.0)) fields

each_is_value-masked : (fields : List (List ℕ × Kept)) → each_is_value (opened fields) ≡ true → each_is_value (masked_fields (opened fields)) ≡ true
each_is_value-masked [] all = refl
each_is_value-masked (field ∷ more) all =
    let parts = and_parts (is_value field.1.0) (each_is_value (opened more)) all in
    and_from _ _ (field.1.1 parts.0) (each_is_value-masked more parts.1)

are_fields-masked : (fields : List (List ℕ × Kept)) → are_fields (opened fields) ≡ true → are_fields (masked_fields (opened fields)) ≡ true
are_fields-masked fields sound =
    let parts = are_fields-parts (opened fields) sound in
    are_fields-from (masked_fields (opened fields))
    (ap are_rising (map-map (λ (field : List ℕ × Value). field.0) (λ field. (field.0, masked field.1)) (opened fields)) ∙ parts.0)
    (each_is_value-masked fields parts.1)
    (each_may_stand-masked (opened fields) parts.2)

shown_secret-is_value : is_value (value.Text shown_secret) ≡ true
unfolding shown_secret unknown_text
shown_secret-is_value = is_value-Text shown_secret

kept_level : (y : Value-F Kept) → StaysValue (roll-Value (map-Value Kept Value (λ e. e.0) y))
kept_level Value-F.Null = subst StaysValue (sym value.rolls-Null) (λ h. ap is_value masked-Null ∙ h)
kept_level (Value-F.Flag flag) = subst StaysValue (sym (value.rolls-Flag flag)) (λ h. ap is_value (masked-Flag flag) ∙ h)
kept_level (Value-F.Whole number) = subst StaysValue (sym (value.rolls-Whole number)) (λ h. ap is_value (masked-Whole number) ∙ h)
kept_level (Value-F.Text text) = subst StaysValue (sym (value.rolls-Text text)) (λ h. ap is_value (masked-Text text) ∙ h)
kept_level (Value-F.List kept) =
    let values : List Value = map (λ (e : Kept). e.0) kept in
    subst StaysValue (sym (value.rolls-List values))
    (λ h. ap is_value (masked-List values) ∙ is_value-List (map masked values) ∙ are_values-masked kept (sym (is_value-List values) ∙ h))
kept_level (Value-F.Object kept) =
    let fields : Pairs = opened kept in
    subst StaysValue (sym (value.rolls-Object fields))
    (λ h. ap is_value (masked-Object fields) ∙ is_value-Object (masked_fields fields) ∙ are_fields-masked kept (sym (is_value-Object fields) ∙ h))
kept_level (Value-F.Secret kept) = subst StaysValue (sym (value.rolls-Secret kept.0)) (λ h. ap is_value (masked-Secret kept.0) ∙ shown_secret-is_value)
kept_level Value-F.Unknown = subst StaysValue (sym value.rolls-Unknown) (λ h. ap is_value masked-Unknown ∙ h)

pub is_value-masked : (one : Value) → StaysValue one
is_value-masked = ind-Value StaysValue (λ x y is. subst (λ (z : Value-F Value). StaysValue (roll-Value z)) is (kept_level y))
