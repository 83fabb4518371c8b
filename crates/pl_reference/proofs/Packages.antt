-- The pairs of an index of packages: what is found among them, and one pair more.
use Rattle.std.proofs.Common.{◌≡◌, ℕ, Bool, true, false, cond, List, [], ◌∷◌, ◌++◌, map, find, Some, None, option_map, refl, ap, ◌∙◌}
use Rattle.std.proofs.lemmas.List.{map-append}
use Rattle.std.specs.HashMap.{HashMap, get, get_by_text}
use Rattle.std.specs.Map.{lookup}
use Rattle.std.specs.Prelude.{String, string_bytes, string_eq}
use Rattle.std.specs.Str.{bytes_eq}
use Rattle.indexmap.specs.IndexMap.{insert_entry}
use Rattle.indexmap.proofs.CallerLemmas.{insert_entry-new}
use Rattle.pl_reference.specs.Packages.{pairs_in, words_of}

looked_up : {Y : Type 0} (text : List ℕ) (entries : List (String Y × List (List ℕ)))
    → lookup (λ (k : String Y). bytes_eq text (string_bytes k)) entries
    ≡ option_map (λ (pair : List ℕ × List (List ℕ)). pair.1) (find (λ (pair : List ℕ × List (List ℕ)). bytes_eq text pair.0) (map (λ (pair : String Y × List (List ℕ)). (string_bytes pair.0, pair.1)) entries))
looked_up {Y = Y} text [] = refl
looked_up {Y = Y} text (entry ∷ entries) = by (bytes_eq text (string_bytes entry.0)) (looked_up text entries)
  where
    by : (b : Bool)
        → lookup (λ (k : String Y). bytes_eq text (string_bytes k)) entries
        ≡ option_map (λ (pair : List ℕ × List (List ℕ)). pair.1) (find (λ (pair : List ℕ × List (List ℕ)). bytes_eq text pair.0) (map (λ (pair : String Y × List (List ℕ)). (string_bytes pair.0, pair.1)) entries))
        → cond b (Some entry.1) (lookup (λ (k : String Y). bytes_eq text (string_bytes k)) entries)
        ≡ option_map (λ (pair : List ℕ × List (List ℕ)). pair.1) (cond b (Some (string_bytes entry.0, entry.1))
        (find (λ (pair : List ℕ × List (List ℕ)). bytes_eq text pair.0) (map (λ (pair : String Y × List (List ℕ)). (string_bytes pair.0, pair.1)) entries)))
    by true rest = refl
    by false rest = rest

abbrev pub paired : {Y : Type 0} → List (String Y × List (List ℕ)) → List (List ℕ × List (List ℕ))
paired entries = map (λ pair. (string_bytes pair.0, pair.1)) entries

module _ {Y S : Type 0} (words : HashMap (String Y) (List (List ℕ)) S) where
  -- what an index holds under a package is what its pairs have of it
  pub words_found : (text : List ℕ) → get_by_text words text ≡ words_of (pairs_in words) text
  words_found text = looked_up text words.entries

  -- a package that has no words yet goes to the end
  pub words_added : (key : String Y) (more : List (List ℕ)) → get string_eq words key ≡ None
      → map (λ (pair : String Y × List (List ℕ)). (string_bytes pair.0, pair.1)) (insert_entry string_eq words.entries key more)
      ≡ pairs_in words ++ (string_bytes key, more) ∷ []
  words_added key more none =
      ap (map (λ (pair : String Y × List (List ℕ)). (string_bytes pair.0, pair.1))) (insert_entry-new string_eq words key more none)
      ∙ map-append (λ (pair : String Y × List (List ℕ)). (string_bytes pair.0, pair.1)) words.entries ((key, more) ∷ [])
