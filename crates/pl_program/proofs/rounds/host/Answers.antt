use Rattle.pl_program.proofs.Going.{over_nothing}
use Rattle.pl_program.proofs.rounds.host.Goals as goal

pub returns-in-Err-clause-told : goal.returns-in-Err-clause-told
returns-in-Err-clause-told g c = over_nothing _ _ _ _ _
