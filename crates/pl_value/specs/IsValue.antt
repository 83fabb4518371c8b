-- Which values are values of properties: those that have a spelling of their own.
use Rattle.std.specs.Prelude.{ℕ, Bool, true, false, not, ◌&&◌, ◌||◌, List, bytes_eq, IsTrue}
use Rattle.std.specs.List.{list_all}
use Rattle.pl_value.specs.Keys.{are_rising, keys_of}
use Rattle.pl_value.specs.Marks.{unknown_text, secret_key, secret_mark}
use Rattle.pl_value.specs.declared.value.Value.{Value}
use Rattle.pl_value.specs.declared.value.Value.TheVariants.{Text, Unknown}
use Rattle.pl_value.specs.declared.value.Value.TheOpen.{Value-F}
use Rattle.pl_value.specs.declared.value.Value.TheFolds.{para-Value}

-- what may stand under the secret's key: the unknown, or a text other than the secret's mark
abbrev pub is_unmarked : Value → Bool
is_unmarked (Text text) = not (bytes_eq text secret_mark)
is_unmarked Unknown = true
is_unmarked _ = false

-- the value may stand under the key
abbrev pub may_stand_under : List ℕ → Value → Bool
may_stand_under key value = not (bytes_eq key secret_key) || is_unmarked value

-- one level, with each value inside beside whether it is a value of a property
abbrev pub is_value_level : Value-F (Value × Bool) → Bool
is_value_level Value-F.Null = true
is_value_level (Value-F.Flag flag) = true
is_value_level (Value-F.Whole number) = true
is_value_level (Value-F.Text text) = not (bytes_eq text unknown_text)
is_value_level (Value-F.List values) = list_all (λ value. value.1) values
is_value_level (Value-F.Object fields) =
    are_rising (keys_of fields) && list_all (λ field. field.1.1) fields && list_all (λ field. may_stand_under field.0 field.1.0) fields
is_value_level (Value-F.Secret value) = value.1
is_value_level Value-F.Unknown = true

abbrev pub is_value : Value → Bool
is_value = para-Value Bool is_value_level

abbrev pub are_values : List Value → Bool
are_values values = list_all is_value values

abbrev pub each_is_value : List (List ℕ × Value) → Bool
each_is_value fields = list_all (λ field. is_value field.1) fields

abbrev pub each_may_stand : List (List ℕ × Value) → Bool
each_may_stand fields = list_all (λ field. may_stand_under field.0 field.1) fields

abbrev pub are_fields : List (List ℕ × Value) → Bool
are_fields fields = are_rising (keys_of fields) && each_is_value fields && each_may_stand fields

-- no text in the value is that of the unknown, the keys of each object rise, and none spells a secret
abbrev pub IsValue : Value → Type 0
IsValue value = IsTrue (is_value value)

abbrev pub AreValues : List Value → Type 0
AreValues values = IsTrue (are_values values)

-- the same of the fields of an object
abbrev pub AreFields : List (List ℕ × Value) → Type 0
AreFields fields = IsTrue (are_fields fields)
