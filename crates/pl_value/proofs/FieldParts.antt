-- The parts of what holds of fields.
use Rattle.std.proofs.Common.{◌≡◌, ℕ, true, false, cond, Option, Some, None, Bor, IfSome, IsTrue, option_map, find, bytes_eq, ◌&&◌, List, [], ◌∷◌, ◌++◌, refl, sym, ap, ◌∙◌}
use Rattle.std.proofs.lemmas.Bool.{and_parts, and_from}
use Rattle.std.proofs.lemmas.List.Folds.{list_all-append}
use Rattle.std.specs.List.{list_all}
use Rattle.std.specs.Option.{option_copied}
use Rattle.pl_value.specs.Keys.{are_rising, is_below, keys_of, are_all_below, value_at}
use Rattle.pl_value.specs.IsValue.{is_value, are_fields, each_is_value, each_may_stand, may_stand_under}
use Rattle.pl_value.specs.declared.value.Value.{Value}

abbrev pub Pairs : Type 0
Pairs = List (List ℕ × Value)

pub are_fields-parts : (fields : Pairs) → are_fields fields ≡ true
    → (are_rising (keys_of fields) ≡ true) × (each_is_value fields ≡ true) × (each_may_stand fields ≡ true)
are_fields-parts fields sound =
    let outer = and_parts (are_rising (keys_of fields) && each_is_value fields) (each_may_stand fields) sound in
    let inner = and_parts (are_rising (keys_of fields)) (each_is_value fields) outer.0 in
    (inner.0, inner.1, outer.1)

pub are_fields-from : (fields : Pairs) → are_rising (keys_of fields) ≡ true → each_is_value fields ≡ true → each_may_stand fields ≡ true → are_fields fields ≡ true
are_fields-from fields rising values may = and_from _ _ (and_from _ _ rising values) may

-- a key above each key goes last
pub are_rising-push : (fields : Pairs) (key : List ℕ) (value : Value) → are_rising (keys_of fields) ≡ true → are_all_below fields key ≡ true
    → are_rising (keys_of (fields ++ (key, value) ∷ [])) ≡ true
are_rising-push [] key value rising above = refl
are_rising-push (field ∷ more) key value rising above =
    let here = and_parts (list_all (is_below field.0) (keys_of more)) (are_rising (keys_of more)) rising in
    let below = and_parts (is_below field.0 key) (are_all_below more key) above in
    and_from _ _ (below_each more field.0 key value here.0 below.0) (are_rising-push more key value here.1 below.1)
  where
    below_each : (rest : Pairs) (low : List ℕ) (key : List ℕ) (value : Value) → list_all (is_below low) (keys_of rest) ≡ true → is_below low key ≡ true
        → list_all (is_below low) (keys_of (rest ++ (key, value) ∷ [])) ≡ true
    below_each [] low key value all last = and_from _ _ last refl
    below_each (field ∷ rest) low key value all last =
        let parts = and_parts (is_below low field.0) (list_all (is_below low) (keys_of rest)) all in
        and_from _ _ parts.0 (below_each rest low key value parts.1 last)

pub are_fields-push : (fields : Pairs) (key : List ℕ) (value : Value) → are_fields fields ≡ true → is_value value ≡ true → are_all_below fields key ≡ true
    → may_stand_under key value ≡ true → are_fields (fields ++ (key, value) ∷ []) ≡ true
are_fields-push fields key value sound is above may =
    let parts = are_fields-parts fields sound in
    are_fields-from _ (are_rising-push fields key value parts.0 above)
    (list_all-append (λ field. is_value field.1) fields ((key, value) ∷ []) ∙ and_from _ _ parts.1 (and_from _ _ is refl))
    (list_all-append (λ field. may_stand_under field.0 field.1) fields ((key, value) ∷ []) ∙ and_from _ _ parts.2 (and_from _ _ may refl))

-- what stands under a key is a value
pub is_value-value_at : (fields : Pairs) (key : List ℕ) (value : Value) → each_is_value fields ≡ true → value_at key fields ≡ Some value → is_value value ≡ true
is_value-value_at [] key value all at = cc
is_value-value_at (field ∷ more) key value all at =
    let parts = and_parts (is_value field.1) (each_is_value more) all in
    (elim (bytes_eq field.0 key) as (λ same. option_map (λ pair. pair.1) (cond same (Some field) (find (λ pair. bytes_eq pair.0 key) more)) ≡ Some value → is_value value ≡ true) [
      | true ↦ λ e. (let same : field.1 ≡ value = cc in sym (ap is_value same) ∙ parts.0)
      | false ↦ λ e. is_value-value_at more key value parts.1 e
    ]) at

pub IfSome-value_at : (fields : Pairs) (key : List ℕ) (r : Option (Bor Value)) → each_is_value fields ≡ true → option_copied r ≡ value_at key fields
    → IfSome r (λ value. IsTrue (is_value value.now))
IfSome-value_at fields key None all at = tt
IfSome-value_at fields key (Some value) all at = is_value-value_at fields key value.now all (sym at)
