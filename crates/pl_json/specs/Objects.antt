-- An object whose fields may be left out, and what stands under one name. Its members stand in rising order of their
-- names.
use Rattle.std.specs.Prelude.{ℕ, Bool, true, false, List, [], ◌∷◌, map, Option, Some, None, option_map}
use Rattle.serde_json.specs.Data.{Data, array, boolean, string, object, Members, no_members, put}
use Rattle.serde_json.specs.View.{items_of}

-- a name, and what is written under it, if anything is
abbrev pub Field : Type 0
Field = List ℕ × Option Data

-- the members with what is written under the name, in its place
abbrev pub put_if_some : List ℕ → Option Data → Members → Members
put_if_some name None ms = ms
put_if_some name (Some value) ms = put name value ms

-- the members with each of the fields in its place
abbrev pub with_fields : List Field → Members → Members
with_fields [] ms = ms
with_fields (field ∷ more) ms = with_fields more (put_if_some field.0 field.1 ms)

-- the object of the fields that are written
abbrev pub object_with : List Field → Data
object_with fields = object (with_fields fields no_members)

-- a flag is written where it is set
abbrev pub flag_data : Bool → Option Data
flag_data false = None
flag_data true = Some (boolean true)

-- a text is written where there is one
abbrev pub text_data : Option (List ℕ) → Option Data
text_data text = option_map string text

-- what belongs to a list is written where something is in the list
abbrev pub unless_empty : {X : Type 0} → List X → Data → Option Data
unless_empty [] value = None
unless_empty (_ ∷ _) value = Some value

-- texts as an array
abbrev pub texts_data : List (List ℕ) → Data
texts_data texts = array (items_of (map string texts))
