-- The parent that a host names.
use Rattle.std.specs.Prelude.{ℕ, List, Option, option_map, option_and_then}
use Rattle.serde_json.specs.Data.{Data}
use Rattle.pl_members.specs.Field.{text_if_there, unless_none}

-- the text of a parent; the empty one counts as none
abbrev pub parent_text : Option Data → Option (Option (List ℕ))
parent_text value = option_map (option_and_then unless_none) (text_if_there value)
