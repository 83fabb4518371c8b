-- What a turn is by the definitions.
use Rattle.pl_model.specs.Decisions.{Turn as SeenTurn}
use Rattle.pl_turns.specs.Goals.{goals_before}
use Rattle.pl_turns.specs.declared.turn.Turn.{Turn}

-- the turn, as the definitions read it
abbrev pub seen_turn : Turn → SeenTurn
seen_turn turn = record {
  run = turn.claims.now.run;
  answers = turn.errands.now.tickets.answers;
  earlier = goals_before turn.requests.now.goals turn.number;
  before = turn.claims.now.decided;
  goal = turn.goal.now;
  claim = turn.claim;
}
