-- Sets and maps of numbers as lists that stand newest first.
use Rattle.std.specs.Prelude.{ℕ, Option, List, reverse}
use Rattle.std.specs.HashMap.{HashMap}
use Rattle.std.specs.HashSet.{HashSet}

abbrev pub numbers_in : {S : Type 0} → HashSet ℕ S → List ℕ
numbers_in numbers = reverse numbers.keys

abbrev pub kept_in : {S : Type 0} → HashMap ℕ (Option ℕ) S → List (ℕ × Option ℕ)
kept_in kept = reverse kept.entries
