-- What stands at a path.
use Rattle.std.specs.Prelude.{ℕ, List, [], ◌∷◌, map, slice_get, Option, None, Some, option_and_then}
use Rattle.pl_value.specs.Keys as keys
use Rattle.pl_value.specs.declared.value.Value.{Value, out-Value}
use Rattle.pl_value.specs.declared.value.Value.TheVariants as value
use Rattle.pl_value.specs.declared.value.Value.TheOpen.{Value-F}
use Rattle.pl_value.specs.declared.value.Value.TheFolds.{para-Value}
use Rattle.pl_path.specs.declared.segment.Segment.{Segment}
use Rattle.pl_path.specs.declared.segment.Segment.TheVariants.{Key, Index}
use Rattle.pl_path.specs.Grammar.{segments_of}

-- the value that one level is of, where each value inside stands beside something that is said of it
abbrev pub itself : {A : Type 0} → Value-F (Value × A) → Value
itself Value-F.Null = value.Null
itself (Value-F.Flag flag) = value.Flag flag
itself (Value-F.Whole number) = value.Whole number
itself (Value-F.Text text) = value.Text text
itself (Value-F.List values) = value.List (map (λ inner. inner.0) values)
itself (Value-F.Object fields) = value.Object (map (λ field. (field.0, field.1.0)) fields)
itself (Value-F.Secret inner) = value.Secret inner.0
itself Value-F.Unknown = value.Unknown

-- one level, with what each value inside is without its secrets
abbrev pub bare_level : Value-F (Value × Value) → Value
bare_level (Value-F.Secret inner) = inner.1
bare_level level = itself level

-- the value without the secrets around it
abbrev pub bare : Value → Value
bare = para-Value Value bare_level

-- the fields that one level has, if it is an object's
abbrev pub level_fields : Value-F Value → List (List ℕ × Value)
level_fields (Value-F.Object fields) = fields
level_fields _ = []

-- the values that one level has, if it is a list's
abbrev pub level_elements : Value-F Value → List Value
level_elements (Value-F.List values) = values
level_elements _ = []

-- the fields of an object, looked at through secrets; none of another value
abbrev pub fields_of : Value → List (List ℕ × Value)
fields_of holder = level_fields (out-Value (bare holder))

-- the elements of a list, looked at through secrets; none of another value
abbrev pub elements_of : Value → List Value
elements_of holder = level_elements (out-Value (bare holder))

-- what a value has at a segment
abbrev pub inside : Segment → Value → Option Value
inside (Key key) holder = keys.value_at key (fields_of holder)
inside (Index place) holder = slice_get (elements_of holder) place

-- what a value has at the segments
abbrev pub found_in : List Segment → Value → Option Value
found_in [] holder = Some holder
found_in (segment ∷ path) holder = option_and_then (λ inner. found_in path inner) (inside segment holder)

-- what stands at the segments, where the value that they begin at may be missing
abbrev pub found_from : List Segment → Option Value → Option Value
found_from path holder = option_and_then (λ inner. found_in path inner) holder

-- the fields of an object, and none where it is missing
abbrev pub fields_in : Option Value → List (List ℕ × Value)
fields_in None = []
fields_in (Some holder) = fields_of holder

-- the elements of a list, and none where it is missing
abbrev pub elements_in : Option Value → List Value
elements_in None = []
elements_in (Some holder) = elements_of holder

-- what the fields of an object have at a segment; fields are no list, so nothing stands at an index
abbrev pub value_under : Segment → List (List ℕ × Value) → Option Value
value_under (Key key) fields = keys.value_at key fields
value_under (Index place) fields = None

-- what the fields of an object have at the segments
abbrev pub found_at : List Segment → List (List ℕ × Value) → Option Value
found_at [] fields = None
found_at (segment ∷ path) fields = found_from path (value_under segment fields)

-- what the fields of an object have at the path that a text is
unfoldable pub value_at : List ℕ → List (List ℕ × Value) → Option Value
value_at text fields = option_and_then (λ path. found_at path fields) (segments_of text)
