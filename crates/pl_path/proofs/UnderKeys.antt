-- What stands under a key of fields and at a place of elements that were set back.
use Rattle.std.proofs.Common.{◌≡◌, ◌≢◌, ℕ, zero, suc, ◌+◌, Bool, true, false, not, cond, List, [], ◌∷◌, ◌++◌, drop, take, find, bytes_eq, option_map, Option, None, Some, slice_get, Less, Equal, Greater, is_eq, refl, sym, ap, ◌∙◌, arith}
use Rattle.std.proofs.lemmas.Bool.{and_parts}
use Rattle.std.proofs.lemmas.Map.Text.{is_eq-slice_cmp}
use Rattle.std.specs.Cmp.Lexicographic.{slice_cmp}
use Rattle.std.specs.List.{filter, list_all}
use Rattle.std.specs.Ordering.{nat_cmp}
use Rattle.pl_lemmas.proofs.Lists.{same_bytes, bytes_same}
use Rattle.pl_value.specs.Keys as keys
use Rattle.pl_value.specs.Keys.{are_rising, is_below, is_less, keys_of}
use Rattle.pl_value.specs.declared.value.Value.{Value}
use Rattle.pl_value.proofs.FieldParts.{Pairs}
use Rattle.pl_value.proofs.Rising.{apart, reversed}
use Rattle.pl_path.specs.Reset.{field_put, fields_above, fields_below, with_changed_element, with_changed_field, with_put}

-- ---- keys

other_bytes : (key other : List ℕ) → key ≢ other → bytes_eq key other ≡ false
other_bytes key other apart =
    (elim (bytes_eq key other) as (λ b. bytes_eq key other ≡ b → b ≡ false) [
      | true ↦ λ e. absurd (apart (same_bytes key other e))
      | false ↦ λ e. refl
    ]) refl

not_below_itself : (key : List ℕ) → is_below key key ≡ false
not_below_itself key =
    (elim (is_below key key) as (λ b. is_below key key ≡ b → b ≡ false) [
      | true ↦ λ e. let no : bytes_eq key key ≡ false = apart key key e in let yes : bytes_eq key key ≡ true = bytes_same key in cc
      | false ↦ λ e. refl
    ]) refl

-- of two keys one is below the other
other_way : (key other : List ℕ) → key ≢ other → is_below other key ≡ not (is_below key other)
other_way key other differ =
    (elim (slice_cmp nat_cmp key other) as (λ o. slice_cmp nat_cmp key other ≡ o → is_less (slice_cmp nat_cmp other key) ≡ not (is_less o)) [
      | Less ↦ λ e. ap is_less (reversed key other Less e)
      | Equal ↦ λ e. absurd (differ (same_bytes key other (sym (is_eq-slice_cmp key other) ∙ ap is_eq e)))
      | Greater ↦ λ e. ap is_less (reversed key other Greater e)
    ]) refl

-- ---- fields in order

append_missing : (key : List ℕ) (xs ys : Pairs) → keys.value_at key xs ≡ None → keys.value_at key (xs ++ ys) ≡ keys.value_at key ys
append_missing key [] ys none = refl
append_missing key (x ∷ xs) ys none =
    (elim (bytes_eq x.0 key) as (λ b. option_map (λ (pair : List ℕ × Value). pair.1) (cond b (Some x) (find (λ pair. bytes_eq pair.0 key) xs)) ≡ None
    → option_map (λ (pair : List ℕ × Value). pair.1) (cond b (Some x) (find (λ pair. bytes_eq pair.0 key) (xs ++ ys))) ≡ keys.value_at key ys) [
      | true ↦ λ h. cc
      | false ↦ λ h. append_missing key xs ys h
    ]) none

append_found : (key : List ℕ) (xs ys : Pairs) (value : Value) → keys.value_at key xs ≡ Some value → keys.value_at key (xs ++ ys) ≡ Some value
append_found key [] ys value some = cc
append_found key (x ∷ xs) ys value some =
    (elim (bytes_eq x.0 key) as (λ b. option_map (λ (pair : List ℕ × Value). pair.1) (cond b (Some x) (find (λ pair. bytes_eq pair.0 key) xs)) ≡ Some value
    → option_map (λ (pair : List ℕ × Value). pair.1) (cond b (Some x) (find (λ pair. bytes_eq pair.0 key) (xs ++ ys))) ≡ Some value) [
      | true ↦ λ h. h
      | false ↦ λ h. append_found key xs ys value h
    ]) some

-- fields of some keys alone
filter_keeps : (keeps : List ℕ → Bool) (key : List ℕ) (fields : Pairs) → keeps key ≡ true
    → keys.value_at key (filter (λ field. keeps field.0) fields) ≡ keys.value_at key fields
filter_keeps keeps key [] is = refl
filter_keeps keeps key (field ∷ fields) is =
    let more : keys.value_at key (filter (λ field. keeps field.0) fields) ≡ keys.value_at key fields = filter_keeps keeps key fields is in
    (elim (bytes_eq field.0 key) as (λ b. bytes_eq field.0 key ≡ b → keys.value_at key (filter (λ field. keeps field.0) (field ∷ fields))
    ≡ option_map (λ (pair : List ℕ × Value). pair.1) (cond b (Some field) (find (λ pair. bytes_eq pair.0 key) fields))) [
      | true ↦ λ e.
          let kept : keeps field.0 ≡ true = ap keeps (same_bytes field.0 key e) ∙ is in
          ap (λ b. keys.value_at key (cond b (field ∷ filter (λ field. keeps field.0) fields) (filter (λ field. keeps field.0) fields))) kept
          ∙ ap (λ b. option_map (λ (pair : List ℕ × Value). pair.1) (cond b (Some field) (find (λ pair. bytes_eq pair.0 key) (filter (λ field. keeps field.0) fields)))) e
      | false ↦ λ e.
          elim (keeps field.0) as (λ b. keys.value_at key (cond b (field ∷ filter (λ field. keeps field.0) fields) (filter (λ field. keeps field.0) fields))
          ≡ keys.value_at key fields) [
            | true ↦ ap (λ b. option_map (λ (pair : List ℕ × Value). pair.1) (cond b (Some field) (find (λ pair. bytes_eq pair.0 key) (filter (λ field. keeps field.0) fields)))) e ∙ more
            | false ↦ more
          ]
    ]) refl

filter_drops : (keeps : List ℕ → Bool) (key : List ℕ) (fields : Pairs) → keeps key ≡ false
    → keys.value_at key (filter (λ field. keeps field.0) fields) ≡ None
filter_drops keeps key [] is = refl
filter_drops keeps key (field ∷ fields) is =
    let more : keys.value_at key (filter (λ field. keeps field.0) fields) ≡ None = filter_drops keeps key fields is in
    (elim (keeps field.0) as (λ b. keeps field.0 ≡ b → keys.value_at key (cond b (field ∷ filter (λ field. keeps field.0) fields) (filter (λ field. keeps field.0) fields)) ≡ None) [
      | true ↦ λ e.
          let other : bytes_eq field.0 key ≡ false = other_bytes field.0 key (λ h. let yes : keeps key ≡ true = ap keeps (sym h) ∙ e in cc) in
          ap (λ b. option_map (λ (pair : List ℕ × Value). pair.1) (cond b (Some field) (find (λ pair. bytes_eq pair.0 key) (filter (λ field. keeps field.0) fields)))) other ∙ more
      | false ↦ λ e. more
    ]) refl

-- ---- a value that is put under a key, or taken out

put_there : (key : List ℕ) (old : Option Value) (above : Pairs) → keys.value_at key above ≡ None → keys.value_at key (field_put key old ++ above) ≡ old
put_there key None above none = none
put_there key (Some put) above none =
    ap (λ b. option_map (λ (pair : List ℕ × Value). pair.1) (cond b (Some (key, put)) (find (λ pair. bytes_eq pair.0 key) above))) (bytes_same key)

pub put_is_found : (key : List ℕ) (old : Option Value) (fields : Pairs) → keys.value_at key (with_put key old fields) ≡ old
put_is_found key old fields =
    append_missing key (fields_below key fields) (field_put key old ++ fields_above key fields)
    (filter_drops (λ name. is_below name key) key fields (not_below_itself key))
    ∙ put_there key old (fields_above key fields) (filter_drops (λ name. is_below key name) key fields (not_below_itself key))

put_elsewhere : (key other : List ℕ) (old : Option Value) (above : Pairs) → key ≢ other
    → keys.value_at other (field_put key old ++ above) ≡ keys.value_at other above
put_elsewhere key other None above differ = refl
put_elsewhere key other (Some put) above differ =
    ap (λ b. option_map (λ (pair : List ℕ × Value). pair.1) (cond b (Some (key, put)) (find (λ pair. bytes_eq pair.0 other) above))) (other_bytes key other differ)

through_below : (other : List ℕ) (below rest fields : Pairs) → keys.value_at other below ≡ keys.value_at other fields → keys.value_at other rest ≡ None
    → keys.value_at other (below ++ rest) ≡ keys.value_at other fields
through_below other below rest fields same none =
    (elim (keys.value_at other below) as (λ got. keys.value_at other below ≡ got → keys.value_at other (below ++ rest) ≡ keys.value_at other fields) [
      | None ↦ λ e. let missing : keys.value_at other (below ++ rest) ≡ keys.value_at other rest = append_missing other below rest e in cc
      | Some value ↦ λ e. let found : keys.value_at other (below ++ rest) ≡ Some value = append_found other below rest value e in cc
    ]) refl

pub put_stays_elsewhere : (key other : List ℕ) (old : Option Value) (fields : Pairs) → key ≢ other
    → keys.value_at other (with_put key old fields) ≡ keys.value_at other fields
put_stays_elsewhere key other old fields differ =
    let rest : keys.value_at other (field_put key old ++ fields_above key fields) ≡ keys.value_at other (fields_above key fields) =
    put_elsewhere key other old (fields_above key fields) differ in
    let turned : is_below key other ≡ not (is_below other key) = other_way other key (λ h. differ (sym h)) in
    (elim (is_below other key) as (λ b. is_below other key ≡ b → keys.value_at other (with_put key old fields) ≡ keys.value_at other fields) [
      | true ↦ λ e.
          let not_above : is_below key other ≡ false = turned ∙ ap not e in
          through_below other (fields_below key fields) (field_put key old ++ fields_above key fields) fields
          (filter_keeps (λ name. is_below name key) other fields e) (rest ∙ filter_drops (λ name. is_below key name) other fields not_above)
      | false ↦ λ e.
          let is_above : is_below key other ≡ true = turned ∙ ap not e in
          append_missing other (fields_below key fields) (field_put key old ++ fields_above key fields) (filter_drops (λ name. is_below name key) other fields e)
          ∙ rest ∙ filter_keeps (λ name. is_below key name) other fields is_above
    ]) refl

-- ---- what stands under a key, changed

pub change_is_found : (change : Value → Value) (key : List ℕ) (fields : Pairs)
    → keys.value_at key (with_changed_field change key fields) ≡ option_map change (keys.value_at key fields)
change_is_found change key [] = refl
change_is_found change key (field ∷ fields) =
    elim (bytes_eq field.0 key) as (λ b. option_map (λ (pair : List ℕ × Value). pair.1)
    (cond b (Some (field.0, cond b (change field.1) field.1)) (find (λ pair. bytes_eq pair.0 key) (with_changed_field change key fields)))
    ≡ option_map change (option_map (λ (pair : List ℕ × Value). pair.1) (cond b (Some field) (find (λ pair. bytes_eq pair.0 key) fields)))) [
      | true ↦ refl
      | false ↦ change_is_found change key fields
    ]

pub change_stays_elsewhere : (change : Value → Value) (key other : List ℕ) (fields : Pairs) → key ≢ other
    → keys.value_at other (with_changed_field change key fields) ≡ keys.value_at other fields
change_stays_elsewhere change key other [] differ = refl
change_stays_elsewhere change key other (field ∷ fields) differ =
    (elim (bytes_eq field.0 other) as (λ b. bytes_eq field.0 other ≡ b → option_map (λ (pair : List ℕ × Value). pair.1)
    (cond b (Some (field.0, cond (bytes_eq field.0 key) (change field.1) field.1)) (find (λ pair. bytes_eq pair.0 other) (with_changed_field change key fields)))
    ≡ option_map (λ (pair : List ℕ × Value). pair.1) (cond b (Some field) (find (λ pair. bytes_eq pair.0 other) fields))) [
      | true ↦ λ e.
          let no : bytes_eq field.0 key ≡ false = other_bytes field.0 key (λ h. differ (sym h ∙ same_bytes field.0 other e)) in
          ap (λ b. Some (cond b (change field.1) field.1)) no
      | false ↦ λ e. change_stays_elsewhere change key other fields differ
    ]) refl

missing_above : (key : List ℕ) (fields : Pairs) → list_all (is_below key) (keys_of fields) ≡ true → keys.value_at key fields ≡ None
missing_above key [] all = refl
missing_above key (field ∷ fields) all =
    let parts = and_parts (is_below key field.0) (list_all (is_below key) (keys_of fields)) all in
    ap (λ b. option_map (λ (pair : List ℕ × Value). pair.1) (cond b (Some field) (find (λ pair. bytes_eq pair.0 key) fields))) (apart key field.0 parts.0)
    ∙ missing_above key fields parts.1

-- where keys rise, fields of which the one value under the key stays do
pub change_stays : (change : Value → Value) (key : List ℕ) (fields : Pairs) → are_rising (keys_of fields) ≡ true
    → ((one : Value) → keys.value_at key fields ≡ Some one → change one ≡ one) → with_changed_field change key fields ≡ fields
change_stays change key [] rising stays = refl
change_stays change key (field ∷ fields) rising stays =
    let parts = and_parts (list_all (is_below field.0) (keys_of fields)) (are_rising (keys_of fields)) rising in
    (elim (bytes_eq field.0 key) as (λ b. bytes_eq field.0 key ≡ b
    → ((one : Value) → option_map (λ (pair : List ℕ × Value). pair.1) (cond b (Some field) (find (λ pair. bytes_eq pair.0 key) fields)) ≡ Some one → change one ≡ one)
    → (field.0, cond b (change field.1) field.1) ∷ with_changed_field change key fields ≡ field ∷ fields) [
      | true ↦ λ e here.
          let none : keys.value_at key fields ≡ None = missing_above key fields (ap (λ low. list_all (is_below low) (keys_of fields)) (sym (same_bytes field.0 key e)) ∙ parts.0) in
          (λ i. (field.0, here field.1 refl i) ∷ change_stays change key fields parts.1 (λ one some. cc) i)
      | false ↦ λ e here. ap (λ more. field ∷ more) (change_stays change key fields parts.1 here)
    ]) refl stays

-- ---- elements

drop_next : (place : ℕ) (value : Value) (values : List Value) → drop (suc place + 1) (value ∷ values) ≡ drop (place + 1) values
drop_next place value values = let same : suc place + 1 ≡ suc (place + 1) = omega arith in ap (λ n. drop n (value ∷ values)) same

put_at_place : (place : ℕ) (values : List Value) (put there : Value) → slice_get values place ≡ Some there
    → slice_get (take place values ++ put ∷ drop (place + 1) values) place ≡ Some put
put_at_place place [] put there is = cc
put_at_place zero (value ∷ values) put there is = refl
put_at_place (suc place) (value ∷ values) put there is =
    ap (λ rest. slice_get (take place values ++ put ∷ rest) place) (drop_next place value values) ∙ put_at_place place values put there is

put_at_other : (place other : ℕ) (values : List Value) (put there : Value) → place ≢ other → slice_get values place ≡ Some there
    → slice_get (take place values ++ put ∷ drop (place + 1) values) other ≡ slice_get values other
put_at_other place other [] put there differ is = cc
put_at_other zero zero (value ∷ values) put there differ is = absurd (differ refl)
put_at_other zero (suc other) (value ∷ values) put there differ is = refl
put_at_other (suc place) zero (value ∷ values) put there differ is = refl
put_at_other (suc place) (suc other) (value ∷ values) put there differ is =
    ap (λ rest. slice_get (take place values ++ put ∷ rest) other) (drop_next place value values)
    ∙ put_at_other place other values put there (λ h. differ (ap suc h)) is

put_itself : (place : ℕ) (values : List Value) (there : Value) → slice_get values place ≡ Some there
    → take place values ++ there ∷ drop (place + 1) values ≡ values
put_itself place [] there is = cc
put_itself zero (value ∷ values) there is = let same : there ≡ value = cc in ap (λ one. one ∷ values) same
put_itself (suc place) (value ∷ values) there is =
    ap (λ rest. value ∷ (take place values ++ there ∷ rest)) (drop_next place value values) ∙ ap (λ more. value ∷ more) (put_itself place values there is)

abbrev changed : (Value → Value) → ℕ → List Value → Option Value → List Value
changed change place values got = elim got [ None ↦ values | Some one ↦ take place values ++ change one ∷ drop (place + 1) values ]

pub element_is_found : (change : Value → Value) (place : ℕ) (values : List Value)
    → slice_get (with_changed_element change place values) place ≡ option_map change (slice_get values place)
element_is_found change place values =
    (elim (slice_get values place) as (λ got. slice_get values place ≡ got → slice_get (changed change place values got) place ≡ option_map change got) [
      | None ↦ λ e. e
      | Some there ↦ λ e. put_at_place place values (change there) there e
    ]) refl

pub element_stays_elsewhere : (change : Value → Value) (place other : ℕ) (values : List Value) → place ≢ other
    → slice_get (with_changed_element change place values) other ≡ slice_get values other
element_stays_elsewhere change place other values differ =
    (elim (slice_get values place) as (λ got. slice_get values place ≡ got → slice_get (changed change place values got) other ≡ slice_get values other) [
      | None ↦ λ e. refl
      | Some there ↦ λ e. put_at_other place other values (change there) there differ e
    ]) refl

pub element_stays : (change : Value → Value) (place : ℕ) (values : List Value) → ((one : Value) → slice_get values place ≡ Some one → change one ≡ one)
    → with_changed_element change place values ≡ values
element_stays change place values stays =
    (elim (slice_get values place) as (λ got. slice_get values place ≡ got → changed change place values got ≡ values) [
      | None ↦ λ e. refl
      | Some there ↦ λ e. ap (λ one. take place values ++ one ∷ drop (place + 1) values) (stays there e) ∙ put_itself place values there e
    ]) refl
