-- Keys in their order, which is that of their bytes.
use Rattle.std.specs.Prelude.{ℕ, Bool, true, false, ◌&&◌, List, [], ◌∷◌, map, find, option_map, Option, bytes_eq}
use Rattle.std.specs.Ordering.{nat_cmp}
use Rattle.std.specs.declared.cmp.Ordering.{Ordering}
use Rattle.std.specs.declared.cmp.Ordering.TheVariants.{Less, Equal, Greater}
use Rattle.std.specs.Cmp.Lexicographic.{slice_cmp}
use Rattle.std.specs.List.{list_all}

abbrev pub is_less : Ordering → Bool
is_less Less = true
is_less Equal = false
is_less Greater = false

-- the first key is below the second
abbrev pub is_below : List ℕ → List ℕ → Bool
is_below a b = is_less (slice_cmp nat_cmp a b)

-- each key is below all those after it
abbrev pub are_rising : List (List ℕ) → Bool
are_rising [] = true
are_rising (key ∷ more) = list_all (is_below key) more && are_rising more

abbrev pub keys_of : {X : Type 0} → List (List ℕ × X) → List (List ℕ)
keys_of pairs = map (λ pair. pair.0) pairs

-- each key of the pairs is below this one
abbrev pub are_all_below : {X : Type 0} → List (List ℕ × X) → List ℕ → Bool
are_all_below pairs key = list_all (λ pair. is_below pair.0 key) pairs

-- what stands under the key, if anything does
abbrev pub value_at : {X : Type 0} → List ℕ → List (List ℕ × X) → Option X
value_at key pairs = option_map (λ pair. pair.1) (find (λ pair. bytes_eq pair.0 key) pairs)
