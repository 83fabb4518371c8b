-- What the spelling of a value tells, and that it is read as the value.
use Rattle.std.specs.Prelude.{◌≡◌, ◌≤◌, ℕ, List, Some, Ok}
use Rattle.pl_value.specs.Depth.{most_levels}
use Rattle.pl_value.specs.Inside.{depth, greatest_field_depth}
use Rattle.pl_value.specs.IsValue.{IsValue, AreFields}
use Rattle.pl_value.specs.declared.value.Value.{Value}
use Rattle.pl_json.specs.Fits.{WholesFit, FieldsFit}
use Rattle.pl_json.specs.Read.{value_read, fields_read}
use Rattle.pl_json.specs.Spelled.{spelled, spelled_fields, value_text, fields_text}
use Rattle.serde_json.specs.Read.{read}

-- no two values have the same spelling
abbrev pub SpellingTellsValue : Type 0
SpellingTellsValue =
    (one other : Value) → IsValue one → IsValue other → WholesFit one → WholesFit other
    → spelled one ≡ spelled other → one ≡ other

-- no two values have the same text
abbrev pub TextTellsValue : Type 0
TextTellsValue =
    (one other : Value) → IsValue one → IsValue other → WholesFit one → WholesFit other
    → value_text one ≡ value_text other → one ≡ other

-- no two objects of values have the same text
abbrev pub TextTellsFields : Type 0
TextTellsFields =
    (fields others : List (List ℕ × Value)) → AreFields fields → AreFields others → FieldsFit fields → FieldsFit others
    → fields_text fields ≡ fields_text others → fields ≡ others

-- a value that isn't too deep is what its spelling reads as
abbrev pub SpelledIsRead : Type 0
SpelledIsRead =
    (path : List ℕ) (one : Value) → IsValue one → WholesFit one → depth one ≤ most_levels → value_read path (spelled one) ≡ Ok one

-- the text of such a value is JSON, and that JSON is its spelling
abbrev pub TextIsRead : Type 0
TextIsRead = (one : Value) → IsValue one → WholesFit one → depth one ≤ most_levels → read (value_text one) ≡ Some (spelled one)

-- fields of such values are what the spelling of their object reads as
abbrev pub FieldsAreRead : Type 0
FieldsAreRead =
    (path : List ℕ) (fields : List (List ℕ × Value)) → AreFields fields → FieldsFit fields → greatest_field_depth fields ≤ most_levels
    → fields_read path (spelled_fields fields) ≡ Ok fields

-- the text of such an object is JSON, and that JSON is its spelling
abbrev pub FieldsTextIsRead : Type 0
FieldsTextIsRead =
    (fields : List (List ℕ × Value)) → AreFields fields → FieldsFit fields → greatest_field_depth fields ≤ most_levels
    → read (fields_text fields) ≡ Some (spelled_fields fields)
