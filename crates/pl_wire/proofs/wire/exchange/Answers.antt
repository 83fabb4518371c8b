use Rattle.pl_wire.proofs.Giving.{given_whole}
use Rattle.pl_wire.proofs.wire.exchange.Goals as goal

pub returns-in-Ok-clause-given : goal.returns-in-Ok-clause-given
returns-in-Ok-clause-given g c = given_whole c.take_reply.result _ _ _ _ _ c.take_reply.ensures.given_stays c.in-Ok.ensures.frame_given
