use Rattle.pl_program.proofs.Going.{over_wanting}
use Rattle.pl_program.proofs.rounds.round.Goals as goal

pub returns-in-Err-clause-goes : goal.returns-in-Err-clause-goes
returns-in-Err-clause-goes g c = over_wanting c.args.talk.now c.args.talk.now _ _ _ _
