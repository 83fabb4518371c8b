-- What is shown of a value.
use Rattle.std.specs.Prelude.{ℕ, List, map}
use Rattle.pl_value.specs.Marks.{shown_secret}
use Rattle.pl_value.specs.declared.value.Value.{Value}
use Rattle.pl_value.specs.declared.value.Value.TheVariants as value
use Rattle.pl_value.specs.declared.value.Value.TheOpen.{Value-F}
use Rattle.pl_value.specs.declared.value.Value.TheFolds.{fold-Value}

-- one level, with each value inside as it is shown
abbrev pub masked_level : Value-F Value → Value
masked_level Value-F.Null = value.Null
masked_level (Value-F.Flag flag) = value.Flag flag
masked_level (Value-F.Whole number) = value.Whole number
masked_level (Value-F.Text text) = value.Text text
masked_level (Value-F.List values) = value.List values
masked_level (Value-F.Object fields) = value.Object fields
masked_level (Value-F.Secret inner) = value.Text shown_secret
masked_level Value-F.Unknown = value.Unknown

-- the value with a text in the place of each secret
abbrev pub masked : Value → Value
masked = fold-Value Value masked_level

abbrev pub masked_fields : List (List ℕ × Value) → List (List ℕ × Value)
masked_fields fields = map (λ field. (field.0, masked field.1)) fields
