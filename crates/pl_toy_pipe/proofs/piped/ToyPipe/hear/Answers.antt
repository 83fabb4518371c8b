use Rattle.std.proofs.Common.{arith}
use Rattle.pl_toy_pipe.proofs.Hearing.{replies_stay}
use Rattle.pl_toy_pipe.proofs.piped.ToyPipe.hear.Goals as goal

pub returns-in-Ok-clause-taken_stays : goal.returns-in-Ok-clause-taken_stays
returns-in-Ok-clause-taken_stays g c =
    replies_stay c.hear_part-heard.result _ _ _ c.args.self.now.at (omega (arith, c.args.self.now.replies.ok, c.args.self.now.within)) c.hear_part-heard.ensures.step
