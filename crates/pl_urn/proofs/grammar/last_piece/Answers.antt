use Rattle.pl_urn.proofs.Calls.{last_found, last_missing}
use Rattle.pl_urn.proofs.grammar.last_piece.Goals as goal

pub returns-in-Some : goal.returns-in-Some
returns-in-Some c = last_found _ _ _ c.in-Some.ensures.cases

pub returns-in-None : goal.returns-in-None
returns-in-None c = last_missing _ c.in-None.ensures.cases
