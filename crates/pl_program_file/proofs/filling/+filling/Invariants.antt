use Rattle.std.proofs.Common.{◌≡◌, take, drop}
use Rattle.pl_value.specs.Keys.{keys_of}
use Rattle.pl_program_file.specs.Filled.{filled_members, filled_values, inside}
use Rattle.pl_program_file.proofs.OneByOne.{and_then}
use Rattle.pl_program_file.proofs.filling.+filling.Given as goal

-- what the whole is filled with is what the first ones were filled with, and then the rest
abbrev pub invariant-filled_values-loop-value : goal.invariant-filled_values-loop-value
invariant-filled_values-loop-value l =
    filled_values l.known l.preview (inside l.levels) l.values ≡ and_then l.made (filled_values l.known l.preview (inside l.levels) (drop l.value-index l.values))

abbrev pub invariant-filled_members-loop-key : goal.invariant-filled_members-loop-key
invariant-filled_members-loop-key l =
    (keys_of l.made ≡ keys_of (take l.key-index l.fields))
    × (filled_members l.known l.preview l.levels l.fields ≡ and_then l.made (filled_members l.known l.preview l.levels (drop l.key-index l.fields)))
