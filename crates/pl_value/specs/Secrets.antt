-- Which fields are kept as secrets.
use Rattle.std.specs.Prelude.{ℕ, Bool, true, false, not, ◌&&◌, List, map, bytes_eq, nat_lt, if◌then◌else◌}
use Rattle.std.specs.List.{list_any}
use Rattle.pl_value.specs.Depth.{most_levels}
use Rattle.pl_value.specs.Inside.{depth}
use Rattle.pl_value.specs.Marks.{secret_key}
use Rattle.pl_value.specs.declared.value.Value.{Value, out-Value}
use Rattle.pl_value.specs.declared.value.Value.TheVariants as value
use Rattle.pl_value.specs.declared.value.Value.TheOpen.{Value-F}

abbrev pub is_secret_level : Value-F Value → Bool
is_secret_level (Value-F.Secret inner) = true
is_secret_level _ = false

abbrev pub is_secret : Value → Bool
is_secret value = is_secret_level (out-Value value)

abbrev pub is_named : List (List ℕ) → List ℕ → Bool
is_named keys key = list_any (λ name. bytes_eq name key) keys

-- a named value becomes a secret, unless it is one, stands under the secret's key, or is so deep that one level more could not be read back
abbrev pub is_to_mark : List (List ℕ) → List ℕ × Value → Bool
is_to_mark keys field =
    is_named keys field.0 && not (is_secret field.1) && not (bytes_eq field.0 secret_key) && nat_lt (depth field.1) most_levels

abbrev pub marked_field : List (List ℕ) → List ℕ × Value → List ℕ × Value
marked_field keys field = (field.0, (if is_to_mark keys field then value.Secret field.1 else field.1))

abbrev pub marked : List (List ℕ) → List (List ℕ × Value) → List (List ℕ × Value)
marked keys fields = map (marked_field keys) fields
