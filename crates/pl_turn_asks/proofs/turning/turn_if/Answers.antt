use Rattle.pl_turn_asks.proofs.Turns.{turn_other, turn_there}
use Rattle.pl_turn_asks.proofs.turning.turn_if.Goals as goal

pub returns-then-turn-number : goal.returns-then-turn-number
returns-then-turn-number c = turn_there c.args.turn c.args.number c.if-turn-number.true

pub returns-else-turn-number : goal.returns-else-turn-number
returns-else-turn-number c = turn_other c.args.turn c.args.number c.if-turn-number.false
