use Rattle.std.proofs.Common.{◌∙◌, ◌==◌, ◌&&◌, Option, sym, ap}
use Rattle.pl_lemmas.specs.Words.{some_passes}
use Rattle.pl_model.specs.Decisions.{number_at}
use Rattle.pl_turns.specs.Seen.{seen_turn}
use Rattle.pl_turns.specs.declared.turn.Turn.{Turn}
use Rattle.pl_due.proofs.Turning.{turn_elsewhere, turn_here}
use Rattle.pl_due.proofs.seen.Seen.turn_at.Goals as goal

pub returns-in-None : goal.returns-in-None
returns-in-None c = λ test.
    ap (λ (o : Option Turn). some_passes (λ turn. number_at (seen_turn turn) == c.args.number && test (seen_turn turn)) o) (sym c.in-None.is)
    ∙ c.args.self.now.is_turn (λ turn. number_at turn == c.args.number && test turn)

pub returns-then-turn-number : goal.returns-then-turn-number
returns-then-turn-number c = λ test.
    turn_here c.in-Some.turn c.args.number test c.if-turn-number.true
    ∙ ap (λ (o : Option Turn). some_passes (λ turn. number_at (seen_turn turn) == c.args.number && test (seen_turn turn)) o) (sym c.in-Some.is)
    ∙ c.args.self.now.is_turn (λ turn. number_at turn == c.args.number && test turn)

pub returns-else-turn-number : goal.returns-else-turn-number
returns-else-turn-number c = λ test.
    turn_elsewhere c.in-Some.turn c.args.number test c.if-turn-number.false
    ∙ ap (λ (o : Option Turn). some_passes (λ turn. number_at (seen_turn turn) == c.args.number && test (seen_turn turn)) o) (sym c.in-Some.is)
    ∙ c.args.self.now.is_turn (λ turn. number_at turn == c.args.number && test turn)
