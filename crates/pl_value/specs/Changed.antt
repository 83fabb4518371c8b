-- Which keys differ between the fields before and after.
use Rattle.std.specs.Prelude.{ℕ, ◌≢◌, List, [], ◌∷◌}
use Rattle.std.specs.Cmp.Lexicographic.{slice_cmp}
use Rattle.std.specs.Ordering.{nat_cmp}
use Rattle.std.specs.declared.cmp.Ordering.{Ordering}
use Rattle.std.specs.declared.cmp.Ordering.TheVariants.{Less, Greater}
use Rattle.pl_value.specs.Keys.{value_at}
use Rattle.pl_value.specs.declared.value.Value.{Value}

-- the key is in one of the two only, or its values are not the same
abbrev pub IsChanged : List (List ℕ × Value) → List (List ℕ × Value) → List ℕ → Type 0
IsChanged old new key = value_at key old ≢ value_at key new

-- which of the two has the least key: the old for `Less`, the new for `Greater`, both for `Equal`
abbrev pub first_of : List (List ℕ × Value) → List (List ℕ × Value) → Ordering
first_of old [] = Less
first_of [] (after ∷ new) = Greater
first_of (before ∷ old) (after ∷ new) = slice_cmp nat_cmp before.0 after.0
