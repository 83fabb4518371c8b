-- The diff of a goal, as far as it is known.
use Rattle.std.specs.Prelude.{Option, None, Some}
use Rattle.pl_state.specs.declared.goal.Diffed.{Diffed}
use Rattle.pl_turns.specs.declared.diff.Diff.{Diff}
use Rattle.pl_turns.specs.declared.diff.Diff.TheVariants.{Awaited, Unwanted, Known}

-- nothing where it is still awaited, and none in it where none is wanted
abbrev pub known_diff : Diff → Option (Option Diffed)
known_diff Awaited = None
known_diff Unwanted = Some None
known_diff (Known diff) = Some (Some diff)
