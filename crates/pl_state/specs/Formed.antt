-- Which values and rows are formed as messages and the checkpoint give them.
use Rattle.std.specs.Prelude.{ℕ, Bool, true, not, ◌&&◌, nat_lt, Option, None, Some, List}
use Rattle.pl_value.specs.Depth.{most_levels}
use Rattle.pl_value.specs.Inside.{greatest_field_depth}
use Rattle.pl_value.specs.Keys.{are_rising, keys_of}
use Rattle.pl_value.specs.declared.value.Value.{Value}
use Rattle.pl_lemmas.specs.Words.{has_none}
use Rattle.pl_state.specs.declared.entry.Entry.{Entry}

-- the most resources that a state may hold
abbrev pub most_resources : ℕ
most_resources = 10000

-- whether each value of an object is no deeper than a value may be
abbrev pub are_shallow : List (List ℕ × Value) → Bool
are_shallow fields = not (nat_lt most_levels (greatest_field_depth fields))

-- whether there is no text, or one that is not empty
abbrev pub is_none_or_filled : Option (List ℕ) → Bool
is_none_or_filled None = true
is_none_or_filled (Some text) = not (has_none text)

-- whether a row has the form that the checkpoint gives it: its type and its id are not empty, the keys of its property
-- dependencies rise, and no value is too deep
abbrev pub is_formed_row : Entry → Bool
is_formed_row row =
    not (has_none row.kind) && is_none_or_filled row.id && are_rising (keys_of row.property_dependencies)
    && are_shallow row.inputs && are_shallow row.outputs
