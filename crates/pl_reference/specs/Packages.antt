-- Packages with the words that start their providers.
use Rattle.std.specs.Prelude.{ℕ, if◌then◌else◌, Option, is_none, List, String, [], ◌∷◌, ◌++◌, bytes_eq, find, map, option_map, string_bytes}
use Rattle.std.specs.HashMap.{HashMap}

-- the pairs that an index holds, in the order in which they were added
abbrev pub pairs_in : {Y S : Type 0} → HashMap (String Y) (List (List ℕ)) S → List (List ℕ × List (List ℕ))
pairs_in words = map (λ pair. (string_bytes pair.0, pair.1)) words.entries

-- the words of a package
abbrev pub words_of : List (List ℕ × List (List ℕ)) → List ℕ → Option (List (List ℕ))
words_of pairs provided = option_map (λ pair. pair.1) (find (λ pair. bytes_eq provided pair.0) pairs)

-- the pairs with one more, where the package has no words yet
abbrev pub with_words : List ℕ → List (List ℕ) → List (List ℕ × List (List ℕ)) → List (List ℕ × List (List ℕ))
with_words provided words pairs = if is_none (words_of pairs provided) then pairs ++ (provided, words) ∷ [] else pairs
