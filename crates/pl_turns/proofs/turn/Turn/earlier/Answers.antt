use Rattle.std.proofs.Common.{◌∙◌, sym}
use Rattle.pl_turns.proofs.Turns.{earlier_none, earlier_there}
use Rattle.pl_turns.proofs.turn.Turn.earlier.Goals as goal

pub returns-then-number-self : goal.returns-then-number-self
returns-then-number-self c = c.goal.ensures ∙ sym (earlier_there c.args.self.now c.args.number c.if-number-self.true)

pub returns-else-number-self : goal.returns-else-number-self
returns-else-number-self c = sym (earlier_none c.args.self.now c.args.number c.if-number-self.false)
