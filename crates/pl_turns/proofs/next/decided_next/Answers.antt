use Rattle.std.proofs.lemmas.Result.{IfOk-weaker}
use Rattle.pl_turns.proofs.Nexts.{next_chain}
use Rattle.pl_turns.proofs.next.decided_next.Goals as goal

pub returns-in-Some-clause-chain : goal.returns-in-Some-clause-chain
returns-in-Some-clause-chain c =
    IfOk-weaker c.decided.result _ _
    (next_chain c.in-Some.turn c.args.claims.now.run c.args.errands.now.tickets.answers c.args.requests.now.goals c.args.claims.now.decided c.in-Some.ensures)
    c.decided.ensures.chain
