use Rattle.std.proofs.Common.{◌∙◌, sym}
use Rattle.pl_turns.specs.Seen.{seen_turn}
use Rattle.pl_course.specs.Course.{known_now}
use Rattle.pl_core.proofs.Reading.{at_goal, at_none, at_other, turn_number, turn_read}
use Rattle.pl_core.proofs.held.Core.turn_of.Goals as goal

pub returns-in-None : goal.returns-in-None
returns-in-None c =
    at_none (known_now c.args.self.now) c.args.goal
    (c.in-None.ensures ∙ (turn_read c.self.inside c.args.self.now c.self.invariant c.self.view_is))

pub returns-then-turn-goal : goal.returns-then-turn-goal
returns-then-turn-goal c =
    at_goal (known_now c.args.self.now) (seen_turn c.in-Some.turn) c.args.goal
    (c.in-Some.ensures ∙ (turn_read c.self.inside c.args.self.now c.self.invariant c.self.view_is))
    (turn_number c.in-Some.turn.requests.now.goals c.in-Some.turn.number c.in-Some.turn.goal.now c.in-Some.turn.is_goal
    ∙ c.if-turn-goal.true)

pub returns-else-turn-goal : goal.returns-else-turn-goal
returns-else-turn-goal c =
    at_other (known_now c.args.self.now) (seen_turn c.in-Some.turn) c.args.goal
    (c.in-Some.ensures ∙ (turn_read c.self.inside c.args.self.now c.self.invariant c.self.view_is))
    (λ same. c.if-turn-goal.false
    (sym (turn_number c.in-Some.turn.requests.now.goals c.in-Some.turn.number c.in-Some.turn.goal.now c.in-Some.turn.is_goal)
    ∙ same))
