-- References in the texts of a program: `${name.key}`.
use Rattle.std.specs.Prelude.{ℕ, ◌==◌, Bool, not, ◌&&◌, List, [], ◌∷◌, codes, drop, length, nat_lt, if◌then◌else◌, is_none, Option, None, Some, option_and_then}
use Rattle.std.specs.List.{starts_with, before_first, after_first, position_or_len}

-- `${`, with which a reference begins
abbrev pub opening : List ℕ
opening = codes "${"

-- `.`, which stands between the name and the key
abbrev pub is_dot : ℕ → Bool
is_dot byte = byte == 46

-- `}`, with which it ends
abbrev pub is_closing : ℕ → Bool
is_closing byte = byte == 125

abbrev pub is_empty : List ℕ → Bool
is_empty text = length text == 0

-- what follows `${` at the beginning of a text
abbrev pub behind_opening : List ℕ → Option (List ℕ)
behind_opening text = if starts_with (λ a b. a == b) text opening then Some (drop (length opening) text) else None

-- what stands before and after the first byte that passes, if one does
abbrev pub parted : (ℕ → Bool) → List ℕ → Option (List ℕ × List ℕ)
parted passes text =
    if nat_lt (position_or_len passes text) (length text) then Some (before_first passes text, after_first passes text) else None

-- the name and the key, where the key isn't empty and nothing is left behind the reference
abbrev pub if_whole : List ℕ → List ℕ × List ℕ → Option (List ℕ × List ℕ)
if_whole name ended = if not (is_empty ended.0) && is_empty ended.1 then Some (name, ended.0) else None

abbrev pub keyed : List ℕ × List ℕ → Option (List ℕ × List ℕ)
keyed named = option_and_then (if_whole named.0) (parted is_closing named.1)

-- the name and the key of a text that is wholly a reference: the name ends at the first `.`, the key at the first `}`
unfoldable pub reference_in : List ℕ → Option (List ℕ × List ℕ)
reference_in text = option_and_then keyed (option_and_then (parted is_dot) (behind_opening text))

-- whether a resource may have this name: a reference to it can be told from each other text
abbrev pub is_name : List ℕ → Bool
is_name text = not (is_empty text) && is_none (parted is_dot text) && is_none (parted is_closing text)
