-- Which operations are asked at a goal's turn.
use Rattle.std.specs.Prelude.{Bool, true, false}
use Rattle.pl_events.specs.declared.operation.Op.{Op}
use Rattle.pl_events.specs.declared.operation.Op.TheVariants as op

-- whether what an operation asks is read at the turn of a goal, before anything is decided of it
abbrev pub needs_turn : Op → Bool
needs_turn (op.CheckConfig about) = true
needs_turn (op.Check about) = true
needs_turn (op.Diff about) = true
needs_turn _ = false
