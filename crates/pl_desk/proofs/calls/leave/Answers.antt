use Rattle.pl_desk.proofs.Tokens.{mine_after}
use Rattle.pl_desk.proofs.calls.leave.Goals as goal

pub returns-clause-mine : goal.returns-clause-mine
returns-clause-mine g c = mine_after g.J.Chronicle.lines g.J.Chronicle.number_of _ _ _ c.requires.turn c.requires.added c.give_back.ensures.place
