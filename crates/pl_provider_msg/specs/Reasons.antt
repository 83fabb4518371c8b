-- The reasons for which a provider refuses values of properties.
use Rattle.std.specs.Prelude.{ℕ, List, codes, Option, Some, option_and_then}
use Rattle.serde_json.specs.Data.{Data}
use Rattle.serde_json.specs.Find.{get, as_array}
use Rattle.pl_members.specs.Field.{◌>>=◌, each_item, text, unless_none}

-- a property and the reason for which its value is refused
abbrev pub reason_of : Data → Option (List ℕ × List ℕ)
reason_of value = do
  property ← text (get (codes "property") value)
  reason ← text (get (codes "reason") value)
  Some (property, reason)

-- a list of such reasons, and one at least
abbrev pub some_reasons : Data → Option (List (List ℕ × List ℕ))
some_reasons value = option_and_then unless_none (option_and_then (each_item reason_of) (as_array value))
