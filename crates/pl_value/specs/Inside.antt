-- What stands inside a value.
use Rattle.std.specs.Prelude.{ℕ, ◌+◌, max, Bool, true, false, List, [], ◌∷◌, map}
use Rattle.std.specs.List.{list_any}
use Rattle.pl_value.specs.declared.value.Value.{Value}
use Rattle.pl_value.specs.declared.value.Value.TheOpen.{Value-F}
use Rattle.pl_value.specs.declared.value.Value.TheFolds.{fold-Value}

-- one level, with whether each value inside has the unknown
abbrev pub has_unknown_level : Value-F Bool → Bool
has_unknown_level Value-F.Null = false
has_unknown_level (Value-F.Flag flag) = false
has_unknown_level (Value-F.Whole number) = false
has_unknown_level (Value-F.Text text) = false
has_unknown_level (Value-F.List values) = list_any (λ value. value) values
has_unknown_level (Value-F.Object fields) = list_any (λ field. field.1) fields
has_unknown_level (Value-F.Secret value) = value
has_unknown_level Value-F.Unknown = true

-- the unknown is the value or stands in it
abbrev pub has_unknown : Value → Bool
has_unknown = fold-Value Bool has_unknown_level

abbrev pub any_unknown : List Value → Bool
any_unknown values = list_any has_unknown values

abbrev pub any_field_unknown : List (List ℕ × Value) → Bool
any_field_unknown fields = list_any (λ field. has_unknown field.1) fields

-- the greatest of the numbers, and 0 of none
abbrev pub greatest : List ℕ → ℕ
greatest [] = 0
greatest (number ∷ more) = max number (greatest more)

-- one level, with the depth of each value inside
abbrev pub depth_level : Value-F ℕ → ℕ
depth_level Value-F.Null = 0
depth_level (Value-F.Flag flag) = 0
depth_level (Value-F.Whole number) = 0
depth_level (Value-F.Text text) = 0
depth_level (Value-F.List depths) = greatest depths + 1
depth_level (Value-F.Object fields) = greatest (map (λ field. field.1) fields) + 1
depth_level (Value-F.Secret depth) = depth + 1
depth_level Value-F.Unknown = 0

-- how many lists, objects and secrets stand in each other at most
abbrev pub depth : Value → ℕ
depth = fold-Value ℕ depth_level

abbrev pub greatest_depth : List Value → ℕ
greatest_depth values = greatest (map depth values)

abbrev pub greatest_field_depth : List (List ℕ × Value) → ℕ
greatest_field_depth fields = greatest (map (λ field. depth field.1) fields)
