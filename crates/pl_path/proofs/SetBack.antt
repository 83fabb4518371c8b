-- What stands at paths of a value and of fields that were set back.
use Rattle.std.proofs.Common.{◌≡◌, ◌≢◌, ℕ, ◌==◌, true, false, List, [], ◌∷◌, ◌++◌, map, bytes_eq, option_map, Option, None, Some, IsSome, is_some, slice_get, ◌⊎◌, inl, inr, refl, sym, ap, subst, ◌∙◌, arith}
use Rattle.std.proofs.lemmas.Slice.Eq.{bytes_eq-Decides}
use Rattle.std.specs.Option.{option_and_then}
use Rattle.pl_value.specs.IsValue.{is_value, are_fields}
use Rattle.pl_value.specs.Keys as keys
use Rattle.pl_value.specs.Keys.{are_rising, keys_of}
use Rattle.pl_value.specs.declared.value.Value.{Value, roll-Value, out-Value}
use Rattle.pl_value.specs.declared.value.Value.TheOpen.{Value-F}
use Rattle.pl_value.specs.declared.value.Value.TheVariants as value
use Rattle.pl_value.specs.declared.value.Value.TheFolds.{ind-Value, map-Value}
use Rattle.pl_value.proofs.FieldParts.{Pairs, are_fields-parts}
use Rattle.pl_value.proofs.Levels.{is_value-Object}
use Rattle.pl_path.specs.declared.segment.Segment.{Segment}
use Rattle.pl_path.specs.declared.segment.Segment.TheVariants.{Key, Index}
use Rattle.pl_path.specs.Found.{bare, found_at, found_in, inside, level_elements, level_fields, value_under}
use Rattle.pl_path.specs.Laws.{BeginsWith, CanSetBack, CanSetBackAt, IsObject}
use Rattle.pl_path.specs.Reset.{new_element, reset_element, reset_field, reset_fields, reset_in}
use Rattle.pl_path.proofs.Levels.{bare-Null, bare-Flag, bare-Whole, bare-Text, bare-List, bare-Object, bare-Secret, bare-Unknown, out-Null, out-Flag, out-Whole, out-Text, out-List, out-Object, out-Unknown, reset_in-Null, reset_in-Flag, reset_in-Whole, reset_in-Text, reset_in-List, reset_in-Object, reset_in-Secret, reset_in-Unknown}
use Rattle.pl_path.proofs.StaysSound.{bare_is, inside_value, under_value}
use Rattle.pl_path.proofs.UnderKeys.{change_is_found, change_stays, change_stays_elsewhere, element_is_found, element_stays, element_stays_elsewhere, put_is_found, put_stays_elsewhere}

-- ---- three shapes of a value without its secrets

-- what holds nothing: no field, no element, and it stays when it is set back
abbrev HoldsNothing : Value → Type 0
HoldsNothing one =
    (level_fields (out-Value one) ≡ []) × (level_elements (out-Value one) ≡ [])
    × ((segment : Segment) (path : List Segment) (old : Option Value) → reset_in (segment ∷ path) old one ≡ one)

abbrev Shape : Value → Type 0
Shape one = ((fields : Pairs) × (one ≡ value.Object fields)) ⊎ (((values : List Value) × (one ≡ value.List values)) ⊎ HoldsNothing one)

-- setting back goes through secrets, and a value stays where what its secrets hold does
abbrev GoesThrough : Value → Type 0
GoesThrough one =
    Shape (bare one)
    × ((segment : Segment) (path : List Segment) (old : Option Value) → bare (reset_in (segment ∷ path) old one) ≡ reset_in (segment ∷ path) old (bare one))
    × ((segment : Segment) (path : List Segment) (old : Option Value) → reset_in (segment ∷ path) old (bare one) ≡ bare one → reset_in (segment ∷ path) old one ≡ one)

-- a value that is no secret
goes_open : (one : Value) → bare one ≡ one → Shape one
    → ((segment : Segment) (path : List Segment) (old : Option Value) → bare (reset_in (segment ∷ path) old one) ≡ reset_in (segment ∷ path) old one)
    → GoesThrough one
goes_open one is shape stays = (
  subst Shape (sym is) shape,
  (λ segment path old. stays segment path old ∙ ap (reset_in (segment ∷ path) old) (sym is)),
  (λ segment path old same. subst (λ one. reset_in (segment ∷ path) old one ≡ one) is same),
)

goes_nothing : (one : Value) → bare one ≡ one → HoldsNothing one → GoesThrough one
goes_nothing one is holds =
    goes_open one is (inr (inr holds)) (λ segment path old. ap bare (holds.2 segment path old) ∙ is ∙ sym (holds.2 segment path old))

goes_secret : (inner : Value) → GoesThrough inner → GoesThrough (value.Secret inner)
goes_secret inner goes = (
  subst Shape (sym (bare-Secret inner)) goes.0,
  (λ segment path old. ap bare (reset_in-Secret segment path old inner) ∙ bare-Secret (reset_in (segment ∷ path) old inner)
      ∙ goes.1 segment path old ∙ ap (reset_in (segment ∷ path) old) (sym (bare-Secret inner))),
  (λ segment path old same. reset_in-Secret segment path old inner
      ∙ ap value.Secret (goes.2 segment path old (subst (λ one. reset_in (segment ∷ path) old one ≡ one) (bare-Secret inner) same))),
)

abbrev Kept : Type 0
Kept = (one : Value) × GoesThrough one

goes_level : (y : Value-F Kept) → GoesThrough (roll-Value (map-Value Kept Value (λ e. e.0) y))
goes_level Value-F.Null =
    subst GoesThrough (sym value.rolls-Null)
    (goes_nothing value.Null bare-Null (ap level_fields out-Null, ap level_elements out-Null, λ segment path old. reset_in-Null segment path old))
goes_level (Value-F.Flag flag) =
    subst GoesThrough (sym (value.rolls-Flag flag))
    (goes_nothing (value.Flag flag) (bare-Flag flag) (ap level_fields (out-Flag flag), ap level_elements (out-Flag flag), λ segment path old. reset_in-Flag segment path old flag))
goes_level (Value-F.Whole number) =
    subst GoesThrough (sym (value.rolls-Whole number))
    (goes_nothing (value.Whole number) (bare-Whole number) (ap level_fields (out-Whole number), ap level_elements (out-Whole number), λ segment path old. reset_in-Whole segment path old number))
goes_level (Value-F.Text text) =
    subst GoesThrough (sym (value.rolls-Text text))
    (goes_nothing (value.Text text) (bare-Text text) (ap level_fields (out-Text text), ap level_elements (out-Text text), λ segment path old. reset_in-Text segment path old text))
goes_level (Value-F.List kept) =
    let values : List Value = map (λ (e : Kept). e.0) kept in
    subst GoesThrough (sym (value.rolls-List values))
    (goes_open (value.List values) (bare-List values) (inr (inl (values, refl)))
    (λ segment path old. ap bare (reset_in-List segment path old values) ∙ bare-List (reset_element (reset_in path old) segment path old values)
    ∙ sym (reset_in-List segment path old values)))
goes_level (Value-F.Object kept) =
    let fields : Pairs = map (λ (field : List ℕ × Kept). (field.0, field.1.0)) kept in
    subst GoesThrough (sym (value.rolls-Object fields))
    (goes_open (value.Object fields) (bare-Object fields) (inl (fields, refl))
    (λ segment path old. ap bare (reset_in-Object segment path old fields) ∙ bare-Object (reset_field (reset_in path old) segment path old fields)
    ∙ sym (reset_in-Object segment path old fields)))
goes_level (Value-F.Secret kept) = subst GoesThrough (sym (value.rolls-Secret kept.0)) (goes_secret kept.0 kept.1)
goes_level Value-F.Unknown =
    subst GoesThrough (sym value.rolls-Unknown)
    (goes_nothing value.Unknown bare-Unknown (ap level_fields out-Unknown, ap level_elements out-Unknown, λ segment path old. reset_in-Unknown segment path old))

goes_through : (one : Value) → GoesThrough one
goes_through = ind-Value GoesThrough (λ x y same. subst (λ (z : Value-F Value). GoesThrough (roll-Value z)) same (goes_level y))

-- ---- what stands in each shape

-- what a list's elements have at a segment
abbrev element_under : Segment → List Value → Option Value
element_under (Key key) values = None
element_under (Index place) values = slice_get values place

inside_object : (segment : Segment) (holder : Value) (fields : Pairs) → bare holder ≡ value.Object fields → inside segment holder ≡ value_under segment fields
inside_object (Key key) holder fields is = ap (keys.value_at key) (ap (λ one. level_fields (out-Value one)) is ∙ ap level_fields (out-Object fields))
inside_object (Index place) holder fields is =
    ap (λ (values : List Value). slice_get values place) (ap (λ one. level_elements (out-Value one)) is ∙ ap level_elements (out-Object fields))

inside_list : (segment : Segment) (holder : Value) (values : List Value) → bare holder ≡ value.List values → inside segment holder ≡ element_under segment values
inside_list (Key key) holder values is = ap (keys.value_at key) (ap (λ one. level_fields (out-Value one)) is ∙ ap level_fields (out-List values))
inside_list (Index place) holder values is =
    ap (λ (values : List Value). slice_get values place) (ap (λ one. level_elements (out-Value one)) is ∙ ap level_elements (out-List values))

inside_nothing : (segment : Segment) (holder : Value) → HoldsNothing (bare holder) → inside segment holder ≡ None
inside_nothing (Key key) holder holds = ap (keys.value_at key) holds.0
inside_nothing (Index place) holder holds = ap (λ (values : List Value). slice_get values place) holds.1

object_after : (segment : Segment) (path : List Segment) (old : Option Value) (holder : Value) (fields : Pairs) → bare holder ≡ value.Object fields
    → bare (reset_in (segment ∷ path) old holder) ≡ value.Object (reset_field (reset_in path old) segment path old fields)
object_after segment path old holder fields is =
    (goes_through holder).1 segment path old ∙ ap (reset_in (segment ∷ path) old) is ∙ reset_in-Object segment path old fields

list_after : (segment : Segment) (path : List Segment) (old : Option Value) (holder : Value) (values : List Value) → bare holder ≡ value.List values
    → bare (reset_in (segment ∷ path) old holder) ≡ value.List (reset_element (reset_in path old) segment path old values)
list_after segment path old holder values is =
    (goes_through holder).1 segment path old ∙ ap (reset_in (segment ∷ path) old) is ∙ reset_in-List segment path old values

nothing_after : (segment : Segment) (path : List Segment) (old : Option Value) (holder : Value) → HoldsNothing (bare holder)
    → HoldsNothing (bare (reset_in (segment ∷ path) old holder))
nothing_after segment path old holder holds =
    subst HoldsNothing (sym ((goes_through holder).1 segment path old ∙ holds.2 segment path old)) holds

-- ---- at another segment

other_field : (change : Value → Value) (segment other : Segment) (path : List Segment) (old : Option Value) (fields : Pairs) → segment ≢ other
    → value_under other (reset_field change segment path old fields) ≡ value_under other fields
other_field change (Index place) other path old fields differ = refl
other_field change (Key key) (Index place) path old fields differ = refl
other_field change (Key key) (Key name) [] old fields differ = put_stays_elsewhere key name old fields (λ h. differ (ap Key h))
other_field change (Key key) (Key name) (next ∷ path) old fields differ = change_stays_elsewhere change key name fields (λ h. differ (ap Key h))

other_element : (change : Value → Value) (segment other : Segment) (path : List Segment) (old : Option Value) (values : List Value) → segment ≢ other
    → element_under other (reset_element change segment path old values) ≡ element_under other values
other_element change (Key key) other path old values differ = refl
other_element change (Index place) (Key key) path old values differ = refl
other_element change (Index place) (Index there) path old values differ =
    element_stays_elsewhere (new_element change path old) place there values (λ h. differ (ap Index h))

pub other_inside : (segment other : Segment) (path : List Segment) (old : Option Value) (holder : Value) → segment ≢ other
    → inside other (reset_in (segment ∷ path) old holder) ≡ inside other holder
other_inside segment other path old holder differ =
    let after : Value = reset_in (segment ∷ path) old holder in
    elim ((goes_through holder).0) [
      | inl (fields, is) ↦
          inside_object other after (reset_field (reset_in path old) segment path old fields) (object_after segment path old holder fields is)
          ∙ other_field (reset_in path old) segment other path old fields differ ∙ sym (inside_object other holder fields is)
      | inr (inl (values, is)) ↦
          inside_list other after (reset_element (reset_in path old) segment path old values) (list_after segment path old holder values is)
          ∙ other_element (reset_in path old) segment other path old values differ ∙ sym (inside_list other holder values is)
      | inr (inr holds) ↦ inside_nothing other after (nothing_after segment path old holder holds) ∙ sym (inside_nothing other holder holds)
    ]

-- ---- on the way to the path's end

way_field : (change : Value → Value) (segment next : Segment) (path : List Segment) (old : Option Value) (fields : Pairs)
    → value_under segment (reset_field change segment (next ∷ path) old fields) ≡ option_map change (value_under segment fields)
way_field change (Index place) next path old fields = refl
way_field change (Key key) next path old fields = change_is_found change key fields

way_element : (change : Value → Value) (segment next : Segment) (path : List Segment) (old : Option Value) (values : List Value)
    → element_under segment (reset_element change segment (next ∷ path) old values) ≡ option_map change (element_under segment values)
way_element change (Key key) next path old values = refl
way_element change (Index place) next path old values = element_is_found change place values

way_inside : (segment next : Segment) (path : List Segment) (old : Option Value) (holder : Value)
    → inside segment (reset_in (segment ∷ (next ∷ path)) old holder) ≡ option_map (reset_in (next ∷ path) old) (inside segment holder)
way_inside segment next path old holder =
    let change : Value → Value = reset_in (next ∷ path) old in
    let after : Value = reset_in (segment ∷ (next ∷ path)) old holder in
    elim ((goes_through holder).0) [
      | inl (fields, is) ↦
          inside_object segment after (reset_field change segment (next ∷ path) old fields) (object_after segment (next ∷ path) old holder fields is)
          ∙ way_field change segment next path old fields ∙ ap (option_map change) (sym (inside_object segment holder fields is))
      | inr (inl (values, is)) ↦
          inside_list segment after (reset_element change segment (next ∷ path) old values) (list_after segment (next ∷ path) old holder values is)
          ∙ way_element change segment next path old values ∙ ap (option_map change) (sym (inside_list segment holder values is))
      | inr (inr holds) ↦
          inside_nothing segment after (nothing_after segment (next ∷ path) old holder holds)
          ∙ ap (option_map change) (sym (inside_nothing segment holder holds))
    ]

-- ---- the old value at the path

-- what CanSetBack says of fields, of a value
abbrev CanSetBackIn : List Segment → Segment → Option Value → Value → Type 0
CanSetBackIn above (Key key) old holder = IsObject (found_in above holder)
CanSetBackIn above (Index place) old holder = IsSome (found_in (above ++ Index place ∷ []) holder) × IsSome old

-- a value behind a segment
abbrev pub found_behind : List Segment → Option Value → Option Value
found_behind path got = option_and_then (λ inner. found_in path inner) got

deeper : (segment : Segment) (above : List Segment) (last : Segment) (old : Option Value) (holder one : Value) → inside segment holder ≡ Some one
    → CanSetBackIn above last old one → CanSetBackIn (segment ∷ above) last old holder
deeper segment above (Key key) old holder one is can = subst (λ got. IsObject (found_behind above got)) (sym is) can
deeper segment above (Index place) old holder one is (some, put) =
    (subst (λ got. IsSome (found_behind (above ++ Index place ∷ []) got)) (sym is) some, put)

shallower : (segment : Segment) (above : List Segment) (last : Segment) (old : Option Value) (holder one : Value) → inside segment holder ≡ Some one
    → CanSetBackIn (segment ∷ above) last old holder → CanSetBackIn above last old one
shallower segment above (Key key) old holder one is can = subst (λ got. IsObject (found_behind above got)) is can
shallower segment above (Index place) old holder one is (some, put) =
    (subst (λ got. IsSome (found_behind (above ++ Index place ∷ []) got)) is some, put)

nothing_behind : (segment : Segment) (above : List Segment) (last : Segment) (old : Option Value) (holder : Value) → inside segment holder ≡ None
    → CanSetBackIn (segment ∷ above) last old holder → ⊥
nothing_behind segment above (Key key) old holder is can = subst (λ got. IsObject (found_behind above got)) is can
nothing_behind segment above (Index place) old holder is (some, put) =
    let no : IsSome (found_behind (above ++ Index place ∷ []) None) = subst (λ got. IsSome (found_behind (above ++ Index place ∷ []) got)) is some in cc

ends_there : (got : Option Value) → found_behind [] got ≡ got
ends_there None = refl
ends_there (Some one) = refl

element_put : (change : Value → Value) (old got : Option Value) → IsSome got → IsSome old → option_map (new_element change [] old) got ≡ old
element_put change None got some put = cc
element_put change (Some put) None some is = cc
element_put change (Some put) (Some one) some is = refl

last_inside : (last : Segment) (old : Option Value) (holder : Value) → CanSetBackIn [] last old holder → inside last (reset_in (last ∷ []) old holder) ≡ old
last_inside (Key key) old holder (fields, is) =
    inside_object (Key key) (reset_in (Key key ∷ []) old holder) (reset_field (reset_in [] old) (Key key) [] old fields) (object_after (Key key) [] old holder fields is)
    ∙ put_is_found key old fields
last_inside (Index place) old holder (some, put) =
    let there : IsSome (inside (Index place) holder) = subst IsSome (ends_there (inside (Index place) holder)) some in
    let after : Value = reset_in (Index place ∷ []) old holder in
    elim ((goes_through holder).0) [
      | inl (fields, is) ↦ let none : inside (Index place) holder ≡ None = inside_object (Index place) holder fields is in
          let no : IsSome {T = Value} None = subst IsSome none there in cc
      | inr (inl (values, is)) ↦
          inside_list (Index place) after (reset_element (reset_in [] old) (Index place) [] old values) (list_after (Index place) [] old holder values is)
          ∙ element_is_found (new_element (reset_in [] old) [] old) place values
          ∙ element_put (reset_in [] old) old (slice_get values place) (subst IsSome (inside_list (Index place) holder values is) there) put
      | inr (inr holds) ↦ let none : inside (Index place) holder ≡ None = inside_nothing (Index place) holder holds in
          let no : IsSome {T = Value} None = subst IsSome none there in cc
    ]

-- a path that goes on behind a segment is not empty
pub way_on : (segment : Segment) (first : List Segment) (next : Segment) (more : List Segment) (old : Option Value) (holder : Value)
    → inside segment (reset_in (segment ∷ (first ++ next ∷ more)) old holder) ≡ option_map (reset_in (first ++ next ∷ more) old) (inside segment holder)
way_on segment [] next more old holder = way_inside segment next more old holder
way_on segment (there ∷ first) next more old holder = way_inside segment there (first ++ next ∷ more) old holder

old_behind : (path : List Segment) (old : Option Value) (got : Option Value) → ((one : Value) → got ≡ Some one → found_in path (reset_in path old one) ≡ old)
    → (got ≡ None → ⊥) → found_behind path (option_map (reset_in path old) got) ≡ old
old_behind path old None each some = absurd (some refl)
old_behind path old (Some one) each some = each one refl

found_in_old : (above : List Segment) (last : Segment) (old : Option Value) (holder : Value) → CanSetBackIn above last old holder
    → found_in (above ++ last ∷ []) (reset_in (above ++ last ∷ []) old holder) ≡ old
found_in_old [] last old holder can = ends_there (inside last (reset_in (last ∷ []) old holder)) ∙ last_inside last old holder can
found_in_old (segment ∷ above) last old holder can =
    ap (found_behind (above ++ last ∷ [])) (way_on segment above last [] old holder)
    ∙ old_behind (above ++ last ∷ []) old (inside segment holder)
    (λ one is. found_in_old above last old one (shallower segment above last old holder one is can))
    (λ none. nothing_behind segment above last old holder none can)

-- the same of fields

pub way_field_on : (segment : Segment) (first : List Segment) (next : Segment) (more : List Segment) (old : Option Value) (fields : Pairs)
    → value_under segment (reset_fields (segment ∷ (first ++ next ∷ more)) old fields) ≡ option_map (reset_in (first ++ next ∷ more) old) (value_under segment fields)
way_field_on segment [] next more old fields = way_field (reset_in (next ∷ more) old) segment next more old fields
way_field_on segment (there ∷ first) next more old fields =
    way_field (reset_in (there ∷ (first ++ next ∷ more)) old) segment there (first ++ next ∷ more) old fields

can_behind : (segment : Segment) (above : List Segment) (last : Segment) (new old : Pairs) (one : Value) → value_under segment new ≡ Some one
    → CanSetBack (segment ∷ above) last new old → CanSetBackIn above last (found_at (segment ∷ (above ++ last ∷ [])) old) one
can_behind segment above (Key key) new old one is can = subst (λ got. IsObject (found_behind above got)) is can
can_behind segment above (Index place) new old one is (some, put) =
    (subst (λ got. IsSome (found_behind (above ++ Index place ∷ []) got)) is some, put)

no_field_behind : (segment : Segment) (above : List Segment) (last : Segment) (new old : Pairs) → value_under segment new ≡ None
    → CanSetBack (segment ∷ above) last new old → ⊥
no_field_behind segment above (Key key) new old is can = subst (λ got. IsObject (found_behind above got)) is can
no_field_behind segment above (Index place) new old is (some, put) =
    let no : IsSome (found_behind (above ++ Index place ∷ []) None) = subst (λ got. IsSome (found_behind (above ++ Index place ∷ []) got)) is some in cc

pub found_at_old : (above : List Segment) (last : Segment) (new old : Pairs) → CanSetBack above last new old
    → found_at (above ++ last ∷ []) (reset_fields (above ++ last ∷ []) (found_at (above ++ last ∷ []) old) new) ≡ found_at (above ++ last ∷ []) old
found_at_old [] (Key key) new old can =
    ends_there (keys.value_at key (reset_fields (Key key ∷ []) (found_at (Key key ∷ []) old) new)) ∙ put_is_found key (found_at (Key key ∷ []) old) new
found_at_old [] (Index place) new old (some, put) = cc
found_at_old (segment ∷ above) last new old can =
    let put : Option Value = found_at (segment ∷ (above ++ last ∷ [])) old in
    ap (found_behind (above ++ last ∷ [])) (way_field_on segment above last [] put new)
    ∙ old_behind (above ++ last ∷ []) put (value_under segment new)
    (λ one is. found_in_old above last put one (can_behind segment above last new old one is can))
    (λ none. no_field_behind segment above last new old none can)

-- ---- other paths

-- the two paths part at a segment
abbrev Part : List Segment → List Segment → Type 0
Part [] other = ⊥
Part (segment ∷ path) [] = ⊥
Part (segment ∷ path) (there ∷ other) = (segment ≢ there) ⊎ ((segment ≡ there) × Part path other)

same_or_other : (segment other : Segment) → (segment ≡ other) ⊎ (segment ≢ other)
same_or_other (Key key) (Key name) =
    (elim (bytes_eq key name) as (λ b. bytes_eq key name ≡ b → (Key key ≡ Key name) ⊎ (Key key ≢ Key name)) [
      | true ↦ λ e. inl (ap Key ((bytes_eq-Decides key name).0 e))
      | false ↦ λ e. inr (λ (h : Key key ≡ Key name). let same : key ≡ name = cc in let yes : bytes_eq key name ≡ true = (bytes_eq-Decides key name).1 same in cc)
    ]) refl
same_or_other (Key key) (Index place) = inr (λ h. cc)
same_or_other (Index place) (Key key) = inr (λ h. cc)
same_or_other (Index place) (Index there) =
    (elim (place == there) as (λ b. (place == there) ≡ b → (Index place ≡ Index there) ⊎ (Index place ≢ Index there)) [
      | true ↦ λ e. let same : place ≡ there = grind arith in inl (ap Index same)
      | false ↦ λ e. inr (λ (h : Index place ≡ Index there). let same : place ≡ there = cc in grind arith)
    ]) refl

they_part : (path other : List Segment) → (BeginsWith path other → ⊥) → (BeginsWith other path → ⊥) → Part path other
they_part [] other first second = absurd (second (other, refl))
they_part (segment ∷ path) [] first second = absurd (first (segment ∷ path, refl))
they_part (segment ∷ path) (there ∷ other) first second =
    elim (same_or_other segment there) [
      | inr differ ↦ inl differ
      | inl same ↦ inr (
        same,
        they_part path other
            (λ (more, is). first (more, (λ i. same i ∷ is i)))
            (λ (more, is). second (more, (λ i. sym same i ∷ is i))),
      )
    ]

same_behind : (path : List Segment) (change : Value → Value) (got : Option Value) → ((one : Value) → found_in path (change one) ≡ found_in path one)
    → found_behind path (option_map change got) ≡ found_behind path got
same_behind path change None each = refl
same_behind path change (Some one) each = each one

found_in_other : (path other : List Segment) (old : Option Value) (holder : Value) → Part path other → found_in other (reset_in path old holder) ≡ found_in other holder
found_in_other [] other old holder part = absurd part
found_in_other (segment ∷ path) [] old holder part = absurd part
found_in_other (segment ∷ path) (there ∷ other) old holder (inl differ) =
    ap (found_behind other) (other_inside segment there path old holder differ)
found_in_other (segment ∷ []) (there ∷ other) old holder (inr (same, part)) = absurd part
found_in_other (segment ∷ (next ∷ path)) (there ∷ other) old holder (inr (same, part)) =
    ap (λ segment. found_behind other (inside there (reset_in (segment ∷ (next ∷ path)) old holder))) same
    ∙ ap (found_behind other) (way_inside there next path old holder)
    ∙ same_behind other (reset_in (next ∷ path) old) (inside there holder) (λ one. found_in_other (next ∷ path) other old one part)

found_at_other : (path other : List Segment) (old : Option Value) (fields : Pairs) → Part path other → found_at other (reset_fields path old fields) ≡ found_at other fields
found_at_other [] other old fields part = absurd part
found_at_other (segment ∷ path) [] old fields part = absurd part
found_at_other (segment ∷ path) (there ∷ other) old fields (inl differ) =
    ap (found_behind other) (other_field (reset_in path old) segment there path old fields differ)
found_at_other (segment ∷ []) (there ∷ other) old fields (inr (same, part)) = absurd part
found_at_other (segment ∷ (next ∷ path)) (there ∷ other) old fields (inr (same, part)) =
    ap (λ segment. found_behind other (value_under there (reset_fields (segment ∷ (next ∷ path)) old fields))) same
    ∙ ap (found_behind other) (way_field (reset_in (next ∷ path) old) there next path old fields)
    ∙ same_behind other (reset_in (next ∷ path) old) (value_under there fields) (λ one. found_in_other (next ∷ path) other old one part)

pub stays_elsewhere : (path other : List Segment) (old : Option Value) (fields : Pairs) → (BeginsWith path other → ⊥) → (BeginsWith other path → ⊥)
    → found_at other (reset_fields path old fields) ≡ found_at other fields
stays_elsewhere path other old fields first second = found_at_other path other old fields (they_part path other first second)

-- ---- where nothing changes

abbrev CanSetBackInAt : List Segment → Option Value → Value → Type 0
CanSetBackInAt path old holder = (above : List Segment) × (last : Segment) × (path ≡ above ++ last ∷ []) × CanSetBackIn above last old holder

-- a value that can't be set back stays
abbrev StaysIn : List Segment → Option Value → Value → Type 0
StaysIn path old one = is_value one ≡ true → (CanSetBackInAt path old one → ⊥) → reset_in path old one ≡ one

deeper_at : (segment : Segment) (path : List Segment) (old : Option Value) (holder one : Value) → inside segment holder ≡ Some one
    → CanSetBackInAt path old one → CanSetBackInAt (segment ∷ path) old holder
deeper_at segment path old holder one is (above, last, whole, can) =
    (segment ∷ above, last, ap (λ path. segment ∷ path) whole, deeper segment above last old holder one is can)

element_kept : (change : Value → Value) (old : Option Value) (one : Value) → (IsSome old → ⊥) → new_element change [] old one ≡ one
element_kept change None one none = refl
element_kept change (Some put) one none = absurd (none refl)

some_is : (got : Option Value) (one : Value) → got ≡ Some one → IsSome got
some_is got one is = ap (λ (got : Option Value). is_some got) is

stays_object : (segment : Segment) (path : List Segment) (old : Option Value) (holder : Value) (fields : Pairs) → bare holder ≡ value.Object fields
    → is_value holder ≡ true → ((one : Value) → StaysIn path old one) → (CanSetBackInAt (segment ∷ path) old holder → ⊥)
    → reset_field (reset_in path old) segment path old fields ≡ fields
stays_object (Index place) path old holder fields is sound each cannot = refl
stays_object (Key key) [] old holder fields is sound each cannot = absurd (cannot ([], Key key, refl, (fields, is)))
stays_object (Key key) (next ∷ path) old holder fields is sound each cannot =
    let parts = are_fields-parts fields (sym (is_value-Object fields) ∙ ap is_value (sym is) ∙ bare_is holder sound) in
    change_stays (reset_in (next ∷ path) old) key fields parts.0
    (λ one some. let here : inside (Key key) holder ≡ Some one = inside_object (Key key) holder fields is ∙ some in
    each one (inside_value (Key key) holder one sound here) (λ can. cannot (deeper_at (Key key) (next ∷ path) old holder one here can)))

stays_list : (segment : Segment) (path : List Segment) (old : Option Value) (holder : Value) (values : List Value) → bare holder ≡ value.List values
    → is_value holder ≡ true → ((one : Value) → StaysIn path old one) → (CanSetBackInAt (segment ∷ path) old holder → ⊥)
    → reset_element (reset_in path old) segment path old values ≡ values
stays_list (Key key) path old holder values is sound each cannot = refl
stays_list (Index place) [] old holder values is sound each cannot =
    element_stays (new_element (reset_in [] old) [] old) place values
    (λ one some. let here : inside (Index place) holder ≡ Some one = inside_list (Index place) holder values is ∙ some in
    element_kept (reset_in [] old) old one (λ put. cannot (
      [],
      Index place,
      refl,
      (some_is (found_behind [] (inside (Index place) holder)) one (ends_there (inside (Index place) holder) ∙ here), put),
    )))
stays_list (Index place) (next ∷ path) old holder values is sound each cannot =
    element_stays (reset_in (next ∷ path) old) place values
    (λ one some. let here : inside (Index place) holder ≡ Some one = inside_list (Index place) holder values is ∙ some in
    each one (inside_value (Index place) holder one sound here) (λ can. cannot (deeper_at (Index place) (next ∷ path) old holder one here can)))

stays_in : (path : List Segment) (old : Option Value) (holder : Value) → StaysIn path old holder
stays_in [] old holder sound cannot = refl
stays_in (segment ∷ path) old holder sound cannot =
    let goes : GoesThrough holder = goes_through holder in
    let each : (one : Value) → StaysIn path old one = stays_in path old in
    goes.2 segment path old (elim (goes.0) [
      | inl (fields, is) ↦
          ap (reset_in (segment ∷ path) old) is ∙ reset_in-Object segment path old fields
          ∙ ap value.Object (stays_object segment path old holder fields is sound each cannot) ∙ sym is
      | inr (inl (values, is)) ↦
          ap (reset_in (segment ∷ path) old) is ∙ reset_in-List segment path old values
          ∙ ap value.List (stays_list segment path old holder values is sound each cannot) ∙ sym is
      | inr (inr holds) ↦ holds.2 segment path old
    ])

can_before : (segment : Segment) (path : List Segment) (new old : Pairs) (one : Value) → value_under segment new ≡ Some one
    → CanSetBackInAt path (found_at (segment ∷ path) old) one → CanSetBackAt (segment ∷ path) new old
can_before segment path new old one is (above, Key key, whole, can) =
    (segment ∷ above, Key key, ap (λ path. segment ∷ path) whole, subst (λ got. IsObject (found_behind above got)) (sym is) can)
can_before segment path new old one is (above, Index place, whole, (some, put)) = (
  segment ∷ above,
  Index place,
  ap (λ path. segment ∷ path) whole,
  (
    subst (λ got. IsSome (found_behind (above ++ Index place ∷ []) got)) (sym is) some,
    subst (λ path. IsSome (found_at (segment ∷ path) old)) whole put,
  ),
)

pub stays_at : (path : List Segment) (new old : Pairs) → are_fields new ≡ true → (CanSetBackAt path new old → ⊥)
    → reset_fields path (found_at path old) new ≡ new
stays_at [] new old sound cannot = refl
stays_at (Index place ∷ path) new old sound cannot = refl
stays_at (Key key ∷ []) new old sound cannot = absurd (cannot ([], Key key, refl, tt))
stays_at (Key key ∷ (next ∷ path)) new old sound cannot =
    let put : Option Value = found_at (Key key ∷ (next ∷ path)) old in
    let parts = are_fields-parts new sound in
    change_stays (reset_in (next ∷ path) put) key new parts.0
    (λ one some. stays_in (next ∷ path) put one (under_value key new one sound some)
    (λ can. cannot (can_before (Key key) (next ∷ path) new old one some can)))
