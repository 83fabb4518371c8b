use Rattle.std.proofs.Common.{◌≡◌, map, take}
use Rattle.pl_checkpoint_text.specs.Pieces.{pending_text}
use Rattle.pl_checkpoint_text.proofs.spelling.spell_pendings.Given as goal

-- what was made has the texts of the first ones
abbrev pub invariant-loop-operation : goal.invariant-loop-operation
invariant-loop-operation l = l.made ≡ map pending_text (take l.operation-index l.operations)
