-- Marking keeps what holds of fields.
use Rattle.std.proofs.Common.{◌≡◌, ℕ, Bool, true, false, not, ◌&&◌, ◌||◌, cond, List, [], ◌∷◌, bytes_eq, nat_lt, refl, ap, ◌∙◌}
use Rattle.std.proofs.lemmas.Bool.{and_parts}
use Rattle.pl_value.specs.IsValue.{is_value, is_unmarked, are_fields, may_stand_under, each_is_value, each_may_stand}
use Rattle.pl_value.specs.Inside.{depth}
use Rattle.pl_value.specs.Keys.{are_rising}
use Rattle.pl_value.specs.Marks.{secret_key}
use Rattle.pl_value.specs.Secrets.{is_named, is_secret, is_to_mark, marked_field, marked}
use Rattle.pl_value.specs.declared.value.Value.{Value}
use Rattle.pl_value.specs.declared.value.Value.TheVariants as value
use Rattle.pl_value.proofs.Levels.{map-map, is_value-Secret}
use Rattle.pl_value.proofs.FieldParts.{Pairs, are_fields-parts, are_fields-from}

is_value-wrapped : (b : Bool) (one : Value) → is_value (cond b (value.Secret one) one) ≡ is_value one
is_value-wrapped true one = is_value-Secret one
is_value-wrapped false one = refl

not_under_key : (keys : List (List ℕ)) (field : List ℕ × Value) → is_to_mark keys field ≡ true → not (bytes_eq field.0 secret_key) ≡ true
not_under_key keys field mark =
    let outer = and_parts (is_named keys field.0 && not (is_secret field.1) && not (bytes_eq field.0 secret_key)) (nat_lt (depth field.1) 64) mark in
    (and_parts (is_named keys field.0 && not (is_secret field.1)) (not (bytes_eq field.0 secret_key)) outer.0).1

may_stand-wrapped : (b : Bool) (key : List ℕ) (one : Value) → (b ≡ true → not (bytes_eq key secret_key) ≡ true) → may_stand_under key one ≡ true
    → may_stand_under key (cond b (value.Secret one) one) ≡ true
may_stand-wrapped true key one other may = ap (λ other. other || is_unmarked (value.Secret one)) (other refl)
may_stand-wrapped false key one other may = may

each_is_value-marked : (keys : List (List ℕ)) (fields : Pairs) → each_is_value (marked keys fields) ≡ each_is_value fields
each_is_value-marked keys [] = refl
each_is_value-marked keys (field ∷ more) =
    (λ i. is_value-wrapped (is_to_mark keys field) field.1 i && each_is_value-marked keys more i)

each_may_stand-marked : (keys : List (List ℕ)) (fields : Pairs) → each_may_stand fields ≡ true → each_may_stand (marked keys fields) ≡ true
each_may_stand-marked keys [] may = refl
each_may_stand-marked keys (field ∷ more) may =
    let parts = and_parts (may_stand_under field.0 field.1) (each_may_stand more) may in
    (λ i. may_stand-wrapped (is_to_mark keys field) field.0 field.1 (not_under_key keys field) parts.0 i && each_may_stand-marked keys more parts.1 i)

pub are_fields-marked : (keys : List (List ℕ)) (fields : Pairs) → are_fields fields ≡ true → are_fields (marked keys fields) ≡ true
are_fields-marked keys fields sound =
    let parts = are_fields-parts fields sound in
    are_fields-from (marked keys fields)
    (ap are_rising (map-map (λ (field : List ℕ × Value). field.0) (marked_field keys) fields) ∙ parts.0)
    (each_is_value-marked keys fields ∙ parts.1)
    (each_may_stand-marked keys fields parts.2)
