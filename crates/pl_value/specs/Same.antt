-- Whether two values are the same, as a test.
use Rattle.std.specs.Prelude.{◌≡◌, ℕ, ℤ, Bool, true, false, ◌&&◌, List, [], ◌∷◌, map, bytes_eq}
use Rattle.std.specs.Bool.{beq, Decides}
use Rattle.std.specs.Ordering.{int_eq}
use Rattle.pl_value.specs.declared.value.Value.{Value, out-Value}
use Rattle.pl_value.specs.declared.value.Value.TheOpen.{Value-F}
use Rattle.pl_value.specs.declared.value.Value.TheFolds.{fold-Value}

-- whether two lists are of one length, and each test passes what stands at its place
abbrev pub all_pass : {X : Type 0} → List (X → Bool) → List X → Bool
all_pass [] [] = true
all_pass [] (_ ∷ _) = false
all_pass (_ ∷ _) [] = false
all_pass (test ∷ tests) (x ∷ xs) = test x && all_pass tests xs

-- the test of a field: its key, and the test of its value
abbrev pub field_test : List ℕ × (Value → Bool) → List ℕ × Value → Bool
field_test field other = bytes_eq field.0 other.0 && field.1 other.1

-- ---- tests of one level of the other value

-- whether it is null
abbrev pub is_null : Value-F Value → Bool
is_null Value-F.Null = true
is_null _ = false

-- whether it is this flag
abbrev pub is_flag : Bool → Value-F Value → Bool
is_flag flag (Value-F.Flag other) = beq flag other
is_flag flag _ = false

-- whether it is this number
abbrev pub is_whole : ℤ → Value-F Value → Bool
is_whole number (Value-F.Whole other) = int_eq number other
is_whole number _ = false

-- whether it is this text
abbrev pub is_text : List ℕ → Value-F Value → Bool
is_text text (Value-F.Text other) = bytes_eq text other
is_text text _ = false

-- whether it is a list whose values pass the tests
abbrev pub is_list : List (Value → Bool) → Value-F Value → Bool
is_list tests (Value-F.List others) = all_pass tests others
is_list tests _ = false

-- whether it is an object of these keys whose values pass the tests
abbrev pub is_object : List (List ℕ × (Value → Bool)) → Value-F Value → Bool
is_object fields (Value-F.Object others) = all_pass (map field_test fields) others
is_object fields _ = false

-- whether it is a secret whose value passes the test
abbrev pub is_secret_of : (Value → Bool) → Value-F Value → Bool
is_secret_of test (Value-F.Secret other) = test other
is_secret_of test _ = false

-- whether it is the unknown
abbrev pub is_the_unknown : Value-F Value → Bool
is_the_unknown Value-F.Unknown = true
is_the_unknown _ = false

-- one level, with the test of each value inside
abbrev pub same_level : Value-F (Value → Bool) → Value-F Value → Bool
same_level Value-F.Null = is_null
same_level (Value-F.Flag flag) = is_flag flag
same_level (Value-F.Whole number) = is_whole number
same_level (Value-F.Text text) = is_text text
same_level (Value-F.List tests) = is_list tests
same_level (Value-F.Object fields) = is_object fields
same_level (Value-F.Secret test) = is_secret_of test
same_level Value-F.Unknown = is_the_unknown

-- whether two values are the same
abbrev pub value_same : Value → Value → Bool
value_same = fold-Value (Value → Bool) (λ level other. same_level level (out-Value other))

-- whether two lists of fields are the same
abbrev pub fields_same : List (List ℕ × Value) → List (List ℕ × Value) → Bool
fields_same fields others = all_pass (map (λ field. field_test (field.0, value_same field.1)) fields) others

-- the test of values is true exactly for the same ones
abbrev pub SameTellsValues : Type 0
SameTellsValues = (one other : Value) → Decides (value_same one other) (one ≡ other)

-- the test of fields is true exactly for the same ones
abbrev pub SameTellsFields : Type 0
SameTellsFields = (fields others : List (List ℕ × Value)) → Decides (fields_same fields others) (fields ≡ others)
