-- How the values of properties are spelled in JSON. An object's members stand in rising order of their keys.
use Rattle.std.specs.Prelude.{ℕ, List, [], ◌∷◌, map, codes}
use Rattle.pl_value.specs.Marks.{unknown_text, secret_key, secret_mark}
use Rattle.pl_value.specs.declared.value.Value.{Value}
use Rattle.pl_value.specs.declared.value.Value.TheOpen.{Value-F}
use Rattle.pl_value.specs.declared.value.Value.TheFolds.{fold-Value}
use Rattle.serde_json.specs.Data.{Data, null, boolean, number, string, array, object, Items, Members, no_members, member}
use Rattle.serde_json.specs.Find.{of_integer}
use Rattle.serde_json.specs.View.{items_of}
use Rattle.serde_json.specs.Written.{compact_text}

-- the key under which the object of a secret holds the text of its value
unfoldable pub plaintext_key : List ℕ
plaintext_key = codes "plaintext"

-- the object of a secret whose value has this text
abbrev pub secret_data : List ℕ → Data
secret_data text = object (
    member secret_key (string secret_mark) (
    member plaintext_key (string text)
    no_members))

-- the pairs as members, in their order
abbrev pub members_of : List (List ℕ × Data) → Members
members_of [] = no_members
members_of (pair ∷ more) = member pair.0 pair.1 (members_of more)

-- one level, with each value inside as it is spelled
abbrev pub spelled_level : Value-F Data → Data
spelled_level Value-F.Null = null
spelled_level (Value-F.Flag flag) = boolean flag
spelled_level (Value-F.Whole whole) = number (of_integer whole)
spelled_level (Value-F.Text text) = string text
spelled_level (Value-F.List values) = array (items_of values)
spelled_level (Value-F.Object fields) = object (members_of fields)
spelled_level (Value-F.Secret inner) = secret_data (compact_text inner)
spelled_level Value-F.Unknown = string unknown_text

-- the value in JSON
abbrev pub spelled : Value → Data
spelled = fold-Value Data spelled_level

-- the elements of a list in JSON
abbrev pub spelled_items : List Value → Items
spelled_items values = items_of (map spelled values)

-- the fields of an object in JSON
abbrev pub spelled_members : List (List ℕ × Value) → Members
spelled_members fields = members_of (map (λ field. (field.0, spelled field.1)) fields)

-- an object of values in JSON
abbrev pub spelled_fields : List (List ℕ × Value) → Data
spelled_fields fields = object (spelled_members fields)

-- the value's text: JSON without a space or a line break
abbrev pub value_text : Value → List ℕ
value_text value = compact_text (spelled value)

-- the text of an object of values
abbrev pub fields_text : List (List ℕ × Value) → List ℕ
fields_text fields = compact_text (spelled_fields fields)
