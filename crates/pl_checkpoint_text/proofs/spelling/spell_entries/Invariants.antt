use Rattle.std.proofs.Common.{◌≡◌, map, take}
use Rattle.pl_checkpoint_text.specs.Pieces.{entry_text}
use Rattle.pl_checkpoint_text.proofs.spelling.spell_entries.Given as goal

-- what was made has the texts of the first ones
abbrev pub invariant-loop-entry : goal.invariant-loop-entry
invariant-loop-entry l = l.made ≡ map entry_text (take l.entry-index l.entries)
