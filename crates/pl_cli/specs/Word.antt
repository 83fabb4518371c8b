-- A single word of the command line.
use Rattle.std.specs.Prelude.{◌==◌, ℕ, List, [], ◌∷◌, Bool, false, Option, Some, None, codes, length, nat_lt, if◌then◌else◌}
use Rattle.std.specs.List.{before_first, after_first, position_or_len}
use Rattle.std.specs.Str.{bytes_eq}

-- whether this is the word `--`
abbrev pub is_separator : List ℕ → Bool
is_separator word = bytes_eq word (codes "--")

-- whether the word begins with `-`
abbrev pub begins_with_dash : List ℕ → Bool
begins_with_dash [] = false
begins_with_dash (byte ∷ _) = byte == 45

-- whether the byte is `=`
abbrev pub is_equals_sign : ℕ → Bool
is_equals_sign byte = byte == 61

-- what stands before the word's first `=`, or the whole word where it has none
abbrev pub name_part : List ℕ → List ℕ
name_part word = before_first is_equals_sign word

-- the value that an option has within its own word: what stands behind the first `=`
abbrev pub own_value : List ℕ → Option (List ℕ)
own_value word =
    if nat_lt (position_or_len is_equals_sign word) (length word) then Some (after_first is_equals_sign word) else None
