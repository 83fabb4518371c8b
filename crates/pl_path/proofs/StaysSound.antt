-- Fields that are set back hold values of properties again.
use Rattle.std.proofs.Common.{◌≡◌, ℕ, ◌+◌, Bool, true, false, not, ◌||◌, cond, List, [], ◌∷◌, ◌++◌, map, drop, take, find, bytes_eq, option_map, Option, None, Some, slice_get, refl, sym, ap, subst, ◌∙◌}
use Rattle.std.proofs.lemmas.Bool.{and_parts, and_from}
use Rattle.std.proofs.lemmas.List.{take-append-drop}
use Rattle.std.proofs.lemmas.List.Folds.{list_all-append}
use Rattle.std.proofs.lemmas.Slice.Eq.{bytes_eq-Decides}
use Rattle.std.specs.List.{filter, list_all}
use Rattle.pl_value.specs.IsValue.{is_value, is_unmarked, are_fields, are_values, may_stand_under, each_is_value, each_may_stand}
use Rattle.pl_value.specs.Keys as keys
use Rattle.pl_value.specs.Keys.{are_rising, is_below, keys_of}
use Rattle.pl_value.specs.Marks.{secret_key}
use Rattle.pl_value.specs.declared.value.Value.{Value, roll-Value, out-Value, roll-out-Value}
use Rattle.pl_value.specs.declared.value.Value.TheOpen.{Value-F}
use Rattle.pl_value.specs.declared.value.Value.TheVariants as value
use Rattle.pl_value.specs.declared.value.Value.TheFolds.{ind-Value, map-Value}
use Rattle.pl_value.proofs.FieldParts.{Pairs, are_fields-parts, are_fields-from}
use Rattle.pl_value.proofs.Levels.{map-map, is_value-List, is_value-Object, is_value-Secret}
use Rattle.pl_value.proofs.Lists.{list_all-slice_get}
use Rattle.pl_value.proofs.Rising.{below_all}
use Rattle.pl_path.specs.declared.segment.Segment.{Segment}
use Rattle.pl_path.specs.declared.segment.Segment.TheVariants.{Key, Index}
use Rattle.pl_path.specs.Found.{bare, elements_of, fields_of, found_at, found_from, found_in, inside, level_elements, level_fields}
use Rattle.pl_path.specs.Reset.{field_put, fields_above, fields_below, new_element, reset_element, reset_field, reset_fields, reset_in, with_changed_element, with_changed_field, with_put}
use Rattle.pl_path.proofs.AtSegment.{changed-Some}
use Rattle.pl_path.proofs.Levels.{bare-Null, bare-Flag, bare-Whole, bare-Text, bare-List, bare-Object, bare-Secret, bare-Unknown, reset_in-Null, reset_in-Flag, reset_in-Whole, reset_in-Text, reset_in-List, reset_in-Object, reset_in-Secret, reset_in-Unknown}

-- ---- lists

list_all-filter : {X : Type 0} (p q : X → Bool) (xs : List X) → list_all p xs ≡ true → list_all p (filter q xs) ≡ true
list_all-filter p q [] all = refl
list_all-filter p q (x ∷ xs) all =
    let parts = and_parts (p x) (list_all p xs) all in
    let more = list_all-filter p q xs parts.1 in
    elim (q x) as (λ b. list_all p (cond b (x ∷ filter q xs) (filter q xs)) ≡ true) [ true ↦ and_from _ _ parts.0 more | false ↦ more ]

filter-all : {X : Type 0} (p : X → Bool) (xs : List X) → list_all p (filter p xs) ≡ true
filter-all p [] = refl
filter-all p (x ∷ xs) =
    (elim (p x) as (λ b. p x ≡ b → list_all p (cond b (x ∷ filter p xs) (filter p xs)) ≡ true) [
      | true ↦ λ e. and_from _ _ e (filter-all p xs)
      | false ↦ λ e. filter-all p xs
    ]) refl

parts_of_all : {X : Type 0} (p : X → Bool) (n : ℕ) (xs : List X) → list_all p xs ≡ true → (list_all p (take n xs) ≡ true) × (list_all p (drop n xs) ≡ true)
parts_of_all p n xs all =
    and_parts (list_all p (take n xs)) (list_all p (drop n xs)) (sym (list_all-append p (take n xs) (drop n xs)) ∙ ap (list_all p) (take-append-drop n xs) ∙ all)

-- ---- rising keys

below-append : (xs ys : Pairs) (low : List ℕ) → list_all (is_below low) (keys_of xs) ≡ true → list_all (is_below low) (keys_of ys) ≡ true
    → list_all (is_below low) (keys_of (xs ++ ys)) ≡ true
below-append [] ys low first second = second
below-append (x ∷ xs) ys low first second =
    let parts = and_parts (is_below low x.0) (list_all (is_below low) (keys_of xs)) first in
    and_from _ _ parts.0 (below-append xs ys low parts.1 second)

rising-append : (xs ys : Pairs) → are_rising (keys_of xs) ≡ true → are_rising (keys_of ys) ≡ true
    → list_all (λ x. list_all (is_below x.0) (keys_of ys)) xs ≡ true → are_rising (keys_of (xs ++ ys)) ≡ true
rising-append [] ys first second across = second
rising-append (x ∷ xs) ys first second across =
    let parts = and_parts (list_all (is_below x.0) (keys_of xs)) (are_rising (keys_of xs)) first in
    let low = and_parts (list_all (is_below x.0) (keys_of ys)) (list_all (λ x. list_all (is_below x.0) (keys_of ys)) xs) across in
    and_from _ _ (below-append xs ys x.0 parts.0 low.0) (rising-append xs ys parts.1 second low.1)

below-filter : (q : List ℕ × Value → Bool) (xs : Pairs) (low : List ℕ) → list_all (is_below low) (keys_of xs) ≡ true
    → list_all (is_below low) (keys_of (filter q xs)) ≡ true
below-filter q [] low all = refl
below-filter q (x ∷ xs) low all =
    let parts = and_parts (is_below low x.0) (list_all (is_below low) (keys_of xs)) all in
    let more = below-filter q xs low parts.1 in
    elim (q x) as (λ b. list_all (is_below low) (keys_of (cond b (x ∷ filter q xs) (filter q xs))) ≡ true) [ true ↦ and_from _ _ parts.0 more | false ↦ more ]

rising-filter : (q : List ℕ × Value → Bool) (xs : Pairs) → are_rising (keys_of xs) ≡ true → are_rising (keys_of (filter q xs)) ≡ true
rising-filter q [] rising = refl
rising-filter q (x ∷ xs) rising =
    let parts = and_parts (list_all (is_below x.0) (keys_of xs)) (are_rising (keys_of xs)) rising in
    let more = rising-filter q xs parts.1 in
    elim (q x) as (λ b. are_rising (keys_of (cond b (x ∷ filter q xs) (filter q xs))) ≡ true) [
      | true ↦ and_from _ _ (below-filter q xs x.0 parts.0) more
      | false ↦ more
    ]

above-all : (key : List ℕ) (fields : Pairs) → list_all (is_below key) (keys_of (fields_above key fields)) ≡ true
above-all key [] = refl
above-all key (field ∷ fields) =
    (elim (is_below key field.0) as (λ b. is_below key field.0 ≡ b
    → list_all (is_below key) (keys_of (cond b (field ∷ fields_above key fields) (fields_above key fields))) ≡ true) [
      | true ↦ λ e. and_from _ _ e (above-all key fields)
      | false ↦ λ e. above-all key fields
    ]) refl

across : (key : List ℕ) (xs ys : Pairs) → list_all (λ x. is_below x.0 key) xs ≡ true → list_all (is_below key) (keys_of ys) ≡ true
    → list_all (λ x. list_all (is_below x.0) (keys_of ys)) xs ≡ true
across key [] ys low high = refl
across key (x ∷ xs) ys low high =
    let parts = and_parts (is_below x.0 key) (list_all (λ x. is_below x.0 key) xs) low in
    and_from _ _ (below_all x.0 key (keys_of ys) parts.0 high) (across key xs ys parts.1 high)

across-put : (key : List ℕ) (put : Value) (xs ys : Pairs) → list_all (λ x. is_below x.0 key) xs ≡ true → list_all (is_below key) (keys_of ys) ≡ true
    → list_all (λ x. list_all (is_below x.0) (keys_of ((key, put) ∷ ys))) xs ≡ true
across-put key put [] ys low high = refl
across-put key put (x ∷ xs) ys low high =
    let parts = and_parts (is_below x.0 key) (list_all (λ x. is_below x.0 key) xs) low in
    and_from _ _ (and_from _ _ parts.0 (below_all x.0 key (keys_of ys) parts.0 high)) (across-put key put xs ys parts.1 high)

-- ---- what is put among the fields

IsPut : List ℕ → Option Value → Type 0
IsPut key None = Unit {0}
IsPut key (Some put) = (is_value put ≡ true) × (may_stand_under key put ≡ true)

rising-put : (key : List ℕ) (old : Option Value) (fields : Pairs) → are_rising (keys_of fields) ≡ true → are_rising (keys_of (with_put key old fields)) ≡ true
rising-put key None fields rising =
    rising-append (fields_below key fields) (fields_above key fields) (rising-filter _ fields rising) (rising-filter _ fields rising)
    (across key (fields_below key fields) (fields_above key fields) (filter-all _ fields) (above-all key fields))
rising-put key (Some put) fields rising =
    rising-append (fields_below key fields) ((key, put) ∷ fields_above key fields) (rising-filter _ fields rising)
    (and_from _ _ (above-all key fields) (rising-filter _ fields rising))
    (across-put key put (fields_below key fields) (fields_above key fields) (filter-all _ fields) (above-all key fields))

all-put : (p : List ℕ × Value → Bool) (key : List ℕ) (old : Option Value) (fields : Pairs) → list_all p fields ≡ true → list_all p (field_put key old) ≡ true
    → list_all p (with_put key old fields) ≡ true
all-put p key old fields all put =
    list_all-append p (fields_below key fields) (field_put key old ++ fields_above key fields)
    ∙ and_from _ _ (list_all-filter p _ fields all)
    (list_all-append p (field_put key old) (fields_above key fields) ∙ and_from _ _ put (list_all-filter p _ fields all))

put-value : (key : List ℕ) (old : Option Value) → IsPut key old → each_is_value (field_put key old) ≡ true
unfolding IsPut
put-value key None is = refl
put-value key (Some put) is = and_from _ _ is.0 refl

put-may : (key : List ℕ) (old : Option Value) → IsPut key old → each_may_stand (field_put key old) ≡ true
unfolding IsPut
put-may key None is = refl
put-may key (Some put) is = and_from _ _ is.1 refl

are_fields-put : (key : List ℕ) (old : Option Value) (fields : Pairs) → IsPut key old → are_fields fields ≡ true → are_fields (with_put key old fields) ≡ true
are_fields-put key old fields is sound =
    let parts = are_fields-parts fields sound in
    are_fields-from (with_put key old fields) (rising-put key old fields parts.0)
    (all-put (λ field. is_value field.1) key old fields parts.1 (put-value key old is))
    (all-put (λ field. may_stand_under field.0 field.1) key old fields parts.2 (put-may key old is))

-- ---- what is changed among the fields

abbrev pub Keeps : (Value → Value) → Type 0
Keeps change = (one : Value) → is_value one ≡ true → is_value (change one) ≡ true

abbrev pub KeepsUnmarked : (Value → Value) → Type 0
KeepsUnmarked change = (one : Value) → is_unmarked one ≡ true → is_unmarked (change one) ≡ true

may-changed : (change : Value → Value) (key : List ℕ) (one : Value) → KeepsUnmarked change → may_stand_under key one ≡ true
    → may_stand_under key (change one) ≡ true
may-changed change key one keeps may =
    (elim (not (bytes_eq key secret_key)) as (λ other. (other || is_unmarked one) ≡ true → (other || is_unmarked (change one)) ≡ true) [
      | true ↦ λ h. refl
      | false ↦ λ h. keeps one h
    ]) may

values-changed : (change : Value → Value) (key : List ℕ) (fields : Pairs) → Keeps change → each_is_value fields ≡ true
    → each_is_value (with_changed_field change key fields) ≡ true
values-changed change key [] keeps all = refl
values-changed change key (field ∷ more) keeps all =
    let parts = and_parts (is_value field.1) (each_is_value more) all in
    let here : is_value (cond (bytes_eq field.0 key) (change field.1) field.1) ≡ true =
    elim (bytes_eq field.0 key) as (λ b. is_value (cond b (change field.1) field.1) ≡ true) [ true ↦ keeps field.1 parts.0 | false ↦ parts.0 ] in
    and_from _ _ here (values-changed change key more keeps parts.1)

may-changed-each : (change : Value → Value) (key : List ℕ) (fields : Pairs) → KeepsUnmarked change → each_may_stand fields ≡ true
    → each_may_stand (with_changed_field change key fields) ≡ true
may-changed-each change key [] keeps all = refl
may-changed-each change key (field ∷ more) keeps all =
    let parts = and_parts (may_stand_under field.0 field.1) (each_may_stand more) all in
    let here : may_stand_under field.0 (cond (bytes_eq field.0 key) (change field.1) field.1) ≡ true =
    elim (bytes_eq field.0 key) as (λ b. may_stand_under field.0 (cond b (change field.1) field.1) ≡ true) [
      | true ↦ may-changed change field.0 field.1 keeps parts.0
      | false ↦ parts.0
    ] in
    and_from _ _ here (may-changed-each change key more keeps parts.1)

are_fields-changed : (change : Value → Value) (key : List ℕ) (fields : Pairs) → Keeps change → KeepsUnmarked change → are_fields fields ≡ true
    → are_fields (with_changed_field change key fields) ≡ true
are_fields-changed change key fields keeps unmarked sound =
    let parts = are_fields-parts fields sound in
    are_fields-from (with_changed_field change key fields)
    (ap are_rising (map-map (λ (field : List ℕ × Value). field.0) (λ field. (field.0, cond (bytes_eq field.0 key) (change field.1) field.1)) fields) ∙ parts.0)
    (values-changed change key fields keeps parts.1)
    (may-changed-each change key fields unmarked parts.2)

-- ---- elements

are_values-changed : (change : Value → Value) (place : ℕ) (values : List Value) (got : Option Value) → slice_get values place ≡ got
    → Keeps change → are_values values ≡ true → are_values (with_changed_element change place values) ≡ true
are_values-changed change place values None is keeps all =
    ap (λ (got : Option Value). are_values (elim got [ None ↦ values | Some one ↦ take place values ++ change one ∷ drop (place + 1) values ])) is ∙ all
are_values-changed change place values (Some element) is keeps all =
    let here = keeps element (list_all-slice_get is_value values place element all is) in
    ap are_values (changed-Some change place values element is)
    ∙ list_all-append is_value (take place values) (change element ∷ drop (place + 1) values)
    ∙ and_from _ _ (parts_of_all is_value place values all).0 (and_from _ _ here (parts_of_all is_value (place + 1) values all).1)

-- ---- the old value

may_stand_at : Segment → Value → Bool
may_stand_at (Key key) one = may_stand_under key one
may_stand_at (Index place) one = true

may_stand_last : List Segment → Value → Bool
may_stand_last [] one = true
may_stand_last (segment ∷ []) one = may_stand_at segment one
may_stand_last (segment ∷ (next ∷ path)) one = may_stand_last (next ∷ path) one

pub IsOld : List Segment → Option Value → Type 0
IsOld path None = Unit {0}
IsOld path (Some one) = (is_value one ≡ true) × (may_stand_last path one ≡ true)

later : (segment : Segment) (path : List Segment) (old : Option Value) → IsOld (segment ∷ path) old → IsOld path old
unfolding IsOld may_stand_last
later segment path None is = tt
later segment [] (Some one) is = (is.0, refl)
later segment (next ∷ path) (Some one) is = is

IsInside : Segment → Option Value → Type 0
IsInside segment None = Unit {0}
IsInside segment (Some one) = (is_value one ≡ true) × (may_stand_at segment one ≡ true)

widen : (segment next : Segment) (path : List Segment) (old : Option Value) → IsOld (next ∷ path) old → IsOld (segment ∷ (next ∷ path)) old
unfolding IsOld may_stand_last
widen segment next path None is = tt
widen segment next path (Some one) is = is

on_from : (segment : Segment) (path : List Segment) (got : Option Value) → IsInside segment got
    → ((one : Value) → is_value one ≡ true → IsOld path (found_in path one)) → IsOld (segment ∷ path) (found_from path got)
unfolding IsOld IsInside may_stand_last
on_from segment path None is on = tt
on_from segment [] (Some one) is on = is
on_from segment (next ∷ path) (Some one) is on = widen segment next path (found_in (next ∷ path) one) (on one is.0)

inside_key : (key : List ℕ) (fields : Pairs) → each_is_value fields ≡ true → each_may_stand fields ≡ true → IsInside (Key key) (keys.value_at key fields)
unfolding IsInside may_stand_at
inside_key key [] values may = tt
inside_key key (field ∷ more) values may =
    let first = and_parts (is_value field.1) (each_is_value more) values in
    let second = and_parts (may_stand_under field.0 field.1) (each_may_stand more) may in
    (elim (bytes_eq field.0 key) as (λ b. bytes_eq field.0 key ≡ b
    → IsInside (Key key) (option_map (λ (pair : List ℕ × Value). pair.1) (cond b (Some field) (find (λ pair. bytes_eq pair.0 key) more)))) [
      | true ↦ λ e. (first.0, ap (λ name. may_stand_under name field.1) (sym ((bytes_eq-Decides field.0 key).0 e)) ∙ second.0)
      | false ↦ λ e. inside_key key more first.1 second.1
    ]) refl

inside_place : (place : ℕ) (values : List Value) (got : Option Value) → slice_get values place ≡ got → are_values values ≡ true → IsInside (Index place) got
unfolding IsInside may_stand_at
inside_place place values None is all = tt
inside_place place values (Some one) is all = (list_all-slice_get is_value values place one all is, refl)

fields_level : (level : Value-F Value) → is_value (roll-Value level) ≡ true → are_fields (level_fields level) ≡ true
fields_level (Value-F.Object fields) is = sym (is_value-Object fields) ∙ ap is_value (sym (value.rolls-Object fields)) ∙ is
fields_level Value-F.Null is = refl
fields_level (Value-F.Flag flag) is = refl
fields_level (Value-F.Whole number) is = refl
fields_level (Value-F.Text text) is = refl
fields_level (Value-F.List values) is = refl
fields_level (Value-F.Secret inner) is = refl
fields_level Value-F.Unknown is = refl

elements_level : (level : Value-F Value) → is_value (roll-Value level) ≡ true → are_values (level_elements level) ≡ true
elements_level (Value-F.List values) is = sym (is_value-List values) ∙ ap is_value (sym (value.rolls-List values)) ∙ is
elements_level Value-F.Null is = refl
elements_level (Value-F.Flag flag) is = refl
elements_level (Value-F.Whole number) is = refl
elements_level (Value-F.Text text) is = refl
elements_level (Value-F.Object fields) is = refl
elements_level (Value-F.Secret inner) is = refl
elements_level Value-F.Unknown is = refl

abbrev pub BareIs : Value → Type 0
BareIs one = is_value one ≡ true → is_value (bare one) ≡ true

abbrev KeptBare : Type 0
KeptBare = (one : Value) × BareIs one

bare_level_is : (y : Value-F KeptBare) → BareIs (roll-Value (map-Value KeptBare Value (λ e. e.0) y))
bare_level_is Value-F.Null = subst BareIs (sym value.rolls-Null) (λ h. ap is_value bare-Null ∙ h)
bare_level_is (Value-F.Flag flag) = subst BareIs (sym (value.rolls-Flag flag)) (λ h. ap is_value (bare-Flag flag) ∙ h)
bare_level_is (Value-F.Whole number) = subst BareIs (sym (value.rolls-Whole number)) (λ h. ap is_value (bare-Whole number) ∙ h)
bare_level_is (Value-F.Text text) = subst BareIs (sym (value.rolls-Text text)) (λ h. ap is_value (bare-Text text) ∙ h)
bare_level_is (Value-F.List kept) =
    let values : List Value = map (λ (e : KeptBare). e.0) kept in
    subst BareIs (sym (value.rolls-List values)) (λ h. ap is_value (bare-List values) ∙ h)
bare_level_is (Value-F.Object kept) =
    let fields : Pairs = map (λ (field : List ℕ × KeptBare). (field.0, field.1.0)) kept in
    subst BareIs (sym (value.rolls-Object fields)) (λ h. ap is_value (bare-Object fields) ∙ h)
bare_level_is (Value-F.Secret kept) =
    subst BareIs (sym (value.rolls-Secret kept.0)) (λ h. ap is_value (bare-Secret kept.0) ∙ kept.1 (sym (is_value-Secret kept.0) ∙ h))
bare_level_is Value-F.Unknown = subst BareIs (sym value.rolls-Unknown) (λ h. ap is_value bare-Unknown ∙ h)

pub bare_is : (one : Value) → BareIs one
bare_is = ind-Value BareIs (λ x y is. subst (λ (z : Value-F Value). BareIs (roll-Value z)) is (bare_level_is y))

opened_is : (one : Value) → is_value one ≡ true → is_value (roll-Value (out-Value one)) ≡ true
opened_is one is = ap is_value (roll-out-Value one) ∙ is

inside_is : (segment : Segment) (holder : Value) → is_value holder ≡ true → IsInside segment (inside segment holder)
inside_is (Key key) holder is =
    let parts = are_fields-parts (fields_of holder) (fields_level (out-Value (bare holder)) (opened_is (bare holder) (bare_is holder is))) in
    inside_key key (fields_of holder) parts.1 parts.2
inside_is (Index place) holder is =
    inside_place place (elements_of holder) (inside (Index place) holder) refl
    (elements_level (out-Value (bare holder)) (opened_is (bare holder) (bare_is holder is)))

if_inside : (segment : Segment) (got : Option Value) (one : Value) → IsInside segment got → got ≡ Some one → is_value one ≡ true
unfolding IsInside
if_inside segment None one is same = cc
if_inside segment (Some got) one is same = let there : got ≡ one = cc in ap is_value (sym there) ∙ is.0

pub inside_value : (segment : Segment) (holder one : Value) → is_value holder ≡ true → inside segment holder ≡ Some one → is_value one ≡ true
inside_value segment holder one is same = if_inside segment (inside segment holder) one (inside_is segment holder is) same

pub under_value : (key : List ℕ) (fields : Pairs) (one : Value) → are_fields fields ≡ true → keys.value_at key fields ≡ Some one → is_value one ≡ true
under_value key fields one sound same =
    let parts = are_fields-parts fields sound in
    if_inside (Key key) (keys.value_at key fields) one (inside_key key fields parts.1 parts.2) same

found_is : (path : List Segment) (holder : Value) → is_value holder ≡ true → IsOld path (found_in path holder)
unfolding IsOld may_stand_last
found_is [] holder is = (is, refl)
found_is (segment ∷ path) holder is = on_from segment path (inside segment holder) (inside_is segment holder is) (found_is path)

-- what stands at a path of sound fields may stand there
pub found_is_old : (key : List ℕ) (path : List Segment) (fields : Pairs) → are_fields fields ≡ true
    → IsOld (Key key ∷ path) (found_from path (keys.value_at key fields))
found_is_old key path fields sound =
    let parts = are_fields-parts fields sound in
    on_from (Key key) path (keys.value_at key fields) (inside_key key fields parts.1 parts.2) (found_is path)

-- ---- values that are set back

abbrev StaysUnmarked : Segment → List Segment → Option Value → Value → Type 0
StaysUnmarked segment path old one = is_unmarked one ≡ true → is_unmarked (reset_in (segment ∷ path) old one) ≡ true

unmarked_level : (segment : Segment) (path : List Segment) (old : Option Value) (x : Value-F Value) → StaysUnmarked segment path old (roll-Value x)
unmarked_level segment path old Value-F.Null = subst (StaysUnmarked segment path old) (sym value.rolls-Null) (λ h. cc)
unmarked_level segment path old (Value-F.Flag flag) = subst (StaysUnmarked segment path old) (sym (value.rolls-Flag flag)) (λ h. cc)
unmarked_level segment path old (Value-F.Whole number) = subst (StaysUnmarked segment path old) (sym (value.rolls-Whole number)) (λ h. cc)
unmarked_level segment path old (Value-F.Text text) =
    subst (StaysUnmarked segment path old) (sym (value.rolls-Text text)) (λ h. ap is_unmarked (reset_in-Text segment path old text) ∙ h)
unmarked_level segment path old (Value-F.List values) = subst (StaysUnmarked segment path old) (sym (value.rolls-List values)) (λ h. cc)
unmarked_level segment path old (Value-F.Object fields) = subst (StaysUnmarked segment path old) (sym (value.rolls-Object fields)) (λ h. cc)
unmarked_level segment path old (Value-F.Secret inner) = subst (StaysUnmarked segment path old) (sym (value.rolls-Secret inner)) (λ h. cc)
unmarked_level segment path old Value-F.Unknown =
    subst (StaysUnmarked segment path old) (sym value.rolls-Unknown) (λ h. ap is_unmarked (reset_in-Unknown segment path old) ∙ h)

unmarked_in : (path : List Segment) (old : Option Value) → KeepsUnmarked (λ one. reset_in path old one)
unmarked_in [] old one h = h
unmarked_in (segment ∷ path) old one h = subst (StaysUnmarked segment path old) (roll-out-Value one) (unmarked_level segment path old (out-Value one)) h

put_is : (key : List ℕ) (old : Option Value) → IsOld (Key key ∷ []) old → IsPut key old
unfolding IsOld IsPut may_stand_last may_stand_at
put_is key None is = tt
put_is key (Some put) is = is

pub are_fields-reset : (segment : Segment) (path : List Segment) (old : Option Value) (fields : Pairs) → Keeps (λ one. reset_in path old one)
    → IsOld (segment ∷ path) old → are_fields fields ≡ true → are_fields (reset_fields (segment ∷ path) old fields) ≡ true
are_fields-reset (Index place) path old fields keeps is sound = sound
are_fields-reset (Key key) [] old fields keeps is sound = are_fields-put key old fields (put_is key old is) sound
are_fields-reset (Key key) (next ∷ path) old fields keeps is sound =
    are_fields-changed (λ one. reset_in (next ∷ path) old one) key fields keeps (unmarked_in (next ∷ path) old) sound

new_is : (path : List Segment) (old : Option Value) → Keeps (λ one. reset_in path old one) → IsOld path old
    → Keeps (new_element (λ one. reset_in path old one) path old)
unfolding IsOld
new_is [] None keeps is one h = h
new_is [] (Some put) keeps is one h = is.0
new_is (next ∷ path) old keeps is one h = keeps one h

are_values-reset : (segment : Segment) (path : List Segment) (old : Option Value) (values : List Value) → Keeps (λ one. reset_in path old one)
    → IsOld (segment ∷ path) old → are_values values ≡ true → are_values (reset_element (λ one. reset_in path old one) segment path old values) ≡ true
are_values-reset (Key key) path old values keeps is all = all
are_values-reset (Index place) path old values keeps is all =
    are_values-changed (new_element (λ one. reset_in path old one) path old) place values (slice_get values place) refl
    (new_is path old keeps (later (Index place) path old is)) all

abbrev StaysValue : Segment → List Segment → Option Value → Value → Type 0
StaysValue segment path old one = is_value one ≡ true → is_value (reset_in (segment ∷ path) old one) ≡ true

abbrev Kept : Segment → List Segment → Option Value → Type 0
Kept segment path old = (one : Value) × StaysValue segment path old one

kept_level : (segment : Segment) (path : List Segment) (old : Option Value) → Keeps (λ one. reset_in path old one) → IsOld (segment ∷ path) old
    → (y : Value-F (Kept segment path old)) → StaysValue segment path old (roll-Value (map-Value (Kept segment path old) Value (λ e. e.0) y))
kept_level segment path old keeps is Value-F.Null =
    subst (StaysValue segment path old) (sym value.rolls-Null) (λ h. ap is_value (reset_in-Null segment path old) ∙ h)
kept_level segment path old keeps is (Value-F.Flag flag) =
    subst (StaysValue segment path old) (sym (value.rolls-Flag flag)) (λ h. ap is_value (reset_in-Flag segment path old flag) ∙ h)
kept_level segment path old keeps is (Value-F.Whole number) =
    subst (StaysValue segment path old) (sym (value.rolls-Whole number)) (λ h. ap is_value (reset_in-Whole segment path old number) ∙ h)
kept_level segment path old keeps is (Value-F.Text text) =
    subst (StaysValue segment path old) (sym (value.rolls-Text text)) (λ h. ap is_value (reset_in-Text segment path old text) ∙ h)
kept_level segment path old keeps is (Value-F.List kept) =
    let values : List Value = map (λ (e : Kept segment path old). e.0) kept in
    subst (StaysValue segment path old) (sym (value.rolls-List values))
    (λ h. ap is_value (reset_in-List segment path old values) ∙ is_value-List (reset_element (λ one. reset_in path old one) segment path old values)
    ∙ are_values-reset segment path old values keeps is (sym (is_value-List values) ∙ h))
kept_level segment path old keeps is (Value-F.Object kept) =
    let fields : Pairs = map (λ (field : List ℕ × Kept segment path old). (field.0, field.1.0)) kept in
    subst (StaysValue segment path old) (sym (value.rolls-Object fields))
    (λ h. ap is_value (reset_in-Object segment path old fields) ∙ is_value-Object (reset_field (λ one. reset_in path old one) segment path old fields)
    ∙ are_fields-reset segment path old fields keeps is (sym (is_value-Object fields) ∙ h))
kept_level segment path old keeps is (Value-F.Secret kept) =
    subst (StaysValue segment path old) (sym (value.rolls-Secret kept.0))
    (λ h. ap is_value (reset_in-Secret segment path old kept.0) ∙ is_value-Secret (reset_in (segment ∷ path) old kept.0)
    ∙ kept.1 (sym (is_value-Secret kept.0) ∙ h))
kept_level segment path old keeps is Value-F.Unknown =
    subst (StaysValue segment path old) (sym value.rolls-Unknown) (λ h. ap is_value (reset_in-Unknown segment path old) ∙ h)

keeps_at : (segment : Segment) (path : List Segment) (old : Option Value) → Keeps (λ one. reset_in path old one) → IsOld (segment ∷ path) old
    → (one : Value) → StaysValue segment path old one
keeps_at segment path old keeps is =
    ind-Value (StaysValue segment path old)
    (λ x y same. subst (λ (z : Value-F Value). StaysValue segment path old (roll-Value z)) same (kept_level segment path old keeps is y))

pub keeps_in : (path : List Segment) (old : Option Value) → IsOld path old → Keeps (λ one. reset_in path old one)
keeps_in [] old is one h = h
keeps_in (segment ∷ path) old is one h = keeps_at segment path old (keeps_in path old (later segment path old is)) is one h

-- sound fields that are set back to sound ones are sound
pub resets_sound : (key : List ℕ) (path : List Segment) (old fields : Pairs) → are_fields old ≡ true → are_fields fields ≡ true
    → are_fields (reset_fields (Key key ∷ path) (found_from path (keys.value_at key old)) fields) ≡ true
resets_sound key path old fields before sound =
    let put : Option Value = found_from path (keys.value_at key old) in
    let is : IsOld (Key key ∷ path) put = found_is_old key path old before in
    are_fields-reset (Key key) path put fields (keeps_in path put (later (Key key) path put is)) is sound

if_old : (path : List Segment) (old : Option Value) (one : Value) → IsOld path old → old ≡ Some one → is_value one ≡ true
unfolding IsOld
if_old path None one is same = cc
if_old path (Some old) one is same = let there : old ≡ one = cc in ap is_value (sym there) ∙ is.0

-- what is found in sound fields is a value of a property
pub found_is_value : (path : List Segment) (fields : Pairs) (one : Value) → are_fields fields ≡ true → found_at path fields ≡ Some one → is_value one ≡ true
found_is_value [] fields one sound same = cc
found_is_value (Index place ∷ path) fields one sound same = cc
found_is_value (Key key ∷ path) fields one sound same =
    if_old (Key key ∷ path) (found_from path (keys.value_at key fields)) one (found_is_old key path fields sound) same
