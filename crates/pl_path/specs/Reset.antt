-- The fields of an object, set back at a path to those of an older one.
use Rattle.std.specs.Prelude.{ℕ, ◌+◌, Bool, nat_lt, if◌then◌else◌, List, [], ◌∷◌, ◌++◌, drop, map, slice_get, take, bytes_eq, Option, None, Some}
use Rattle.std.specs.List.{filter, list_any}
use Rattle.pl_value.specs.Depth.{most_levels}
use Rattle.pl_value.specs.Inside.{depth}
use Rattle.pl_value.specs.Keys.{is_below}
use Rattle.pl_value.specs.declared.value.Value.{Value, out-Value}
use Rattle.pl_value.specs.declared.value.Value.TheVariants as value
use Rattle.pl_value.specs.declared.value.Value.TheOpen.{Value-F}
use Rattle.pl_value.specs.declared.value.Value.TheFolds.{para-Value}
use Rattle.pl_path.specs.declared.segment.Segment.{Segment}
use Rattle.pl_path.specs.declared.segment.Segment.TheVariants.{Key, Index}
use Rattle.pl_path.specs.Found.{found_at, itself}
use Rattle.pl_path.specs.Grammar.{segments_of}

-- the fields of lower keys, and those of higher ones
abbrev pub fields_below : List ℕ → List (List ℕ × Value) → List (List ℕ × Value)
fields_below key fields = filter (λ field. is_below field.0 key) fields

abbrev pub fields_above : List ℕ → List (List ℕ × Value) → List (List ℕ × Value)
fields_above key fields = filter (λ field. is_below key field.0) fields

-- what is put under the key: nothing where there is no old value
abbrev pub field_put : List ℕ → Option Value → List (List ℕ × Value)
field_put key None = []
field_put key (Some put) = (key, put) ∷ []

-- the fields with what is put under the key, between those of lower keys and those of higher ones
abbrev pub with_put : List ℕ → Option Value → List (List ℕ × Value) → List (List ℕ × Value)
with_put key old fields = fields_below key fields ++ (field_put key old ++ fields_above key fields)

-- the fields with what stands under the key changed, if anything does
abbrev pub with_changed_field : (Value → Value) → List ℕ → List (List ℕ × Value) → List (List ℕ × Value)
with_changed_field change key fields =
    map (λ field. (field.0, (if bytes_eq field.0 key then change field.1 else field.1))) fields

-- the fields set back at a path that begins with this segment: where no other segment follows, the old value is
-- put under the key, or the key is taken out; where others follow, `change` sets back what stands there
abbrev pub reset_field : (Value → Value) → Segment → List Segment → Option Value → List (List ℕ × Value) → List (List ℕ × Value)
reset_field change (Index place) path old fields = fields
reset_field change (Key key) [] old fields = with_put key old fields
reset_field change (Key key) (next ∷ path) old fields = with_changed_field change key fields

-- an element that is set back: to the old one where the path ends and there is one
abbrev pub new_element : (Value → Value) → List Segment → Option Value → Value → Value
new_element change [] None element = element
new_element change [] (Some put) element = put
new_element change (next ∷ path) old element = change element

-- the values with the one at the place changed, if the list is that long
abbrev pub with_changed_element : (Value → Value) → ℕ → List Value → List Value
with_changed_element change place values = elim (slice_get values place) [
  | None ↦ values
  | Some element ↦ take place values ++ change element ∷ drop (place + 1) values
]

-- a list's elements set back at a path that begins with this segment
abbrev pub reset_element : (Value → Value) → Segment → List Segment → Option Value → List Value → List Value
reset_element change (Key key) path old values = values
reset_element change (Index place) path old values = with_changed_element (new_element change path old) place values

-- the same of a value that is no secret, of which this is the one level; what holds nothing stays
abbrev pub reset_level : (Value → Value) → Segment → List Segment → Option Value → Value → Value-F Value → Value
reset_level change segment path old holder (Value-F.Object fields) = value.Object (reset_field change segment path old fields)
reset_level change segment path old holder (Value-F.List values) = value.List (reset_element change segment path old values)
reset_level change segment path old holder _ = holder

-- the same of the value, by its one level
abbrev pub reset_bare : (Value → Value) → Segment → List Segment → Option Value → Value → Value
reset_bare change segment path old holder = reset_level change segment path old holder (out-Value holder)

-- one level, with what each value inside is once what stands in its secrets was changed
abbrev pub through_level : (Value → Value) → Value-F (Value × Value) → Value
through_level change (Value-F.Secret inner) = value.Secret inner.1
through_level change level = change (itself level)

-- the value with what stands in the secrets around it changed, if any are; they stay
abbrev pub through : (Value → Value) → Value → Value
through change = para-Value Value (through_level change)

-- a value set back at the segments to the old value there
abbrev pub reset_in : List Segment → Option Value → Value → Value
reset_in [] old holder = holder
reset_in (segment ∷ path) old holder =
    through (λ inner. reset_bare (λ next. reset_in path old next) segment path old inner) holder

-- an element set back at the segments behind its place
abbrev pub reset_one : List Segment → Option Value → Value → Value
reset_one path old element = new_element (λ inner. reset_in path old inner) path old element

-- a list's elements set back at the place and the segments behind it
abbrev pub reset_elements : ℕ → List Segment → Option Value → List Value → List Value
reset_elements place path old values = reset_element (λ inner. reset_in path old inner) (Index place) path old values

-- the fields set back at the segments to the old value there
abbrev pub reset_fields : List Segment → Option Value → List (List ℕ × Value) → List (List ℕ × Value)
reset_fields [] old fields = fields
reset_fields (segment ∷ path) old fields = reset_field (λ inner. reset_in path old inner) segment path old fields

-- whether a value is deeper than a value may be
abbrev pub is_too_deep : Value → Bool
is_too_deep one = nat_lt most_levels (depth one)

-- whether a value of the fields is too deep
abbrev pub are_too_deep : List (List ℕ × Value) → Bool
are_too_deep fields = list_any (λ field. is_too_deep field.1) fields

-- the changed fields, or those before where a value became too deep
abbrev pub unless_too_deep : List (List ℕ × Value) → List (List ℕ × Value) → List (List ℕ × Value)
unless_too_deep before changed = if are_too_deep changed then before else changed

-- the fields set back at the segments to the old ones, however deep they become
abbrev pub set_back : List Segment → List (List ℕ × Value) → List (List ℕ × Value) → List (List ℕ × Value)
set_back path new old = reset_fields path (found_at path old) new

-- the fields set back at the segments to the old ones
abbrev pub reset_along : List Segment → List (List ℕ × Value) → List (List ℕ × Value) → List (List ℕ × Value)
reset_along path new old = unless_too_deep new (set_back path new old)

-- the fields set back to the old ones at the path that a text is
unfoldable pub reset_at : List ℕ → List (List ℕ × Value) → List (List ℕ × Value) → List (List ℕ × Value)
reset_at text new old = elim (segments_of text) [ None ↦ new | Some path ↦ reset_along path new old ]
