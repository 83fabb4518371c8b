use Rattle.pl_urn.proofs.Parts.{parts_found, parts_missing}
use Rattle.pl_urn.proofs.grammar.parts.Goals as goal

pub returns-in-Some : goal.returns-in-Some
returns-in-Some c = parts_found _ _ c.in-Some.ensures.cases

pub returns-in-None : goal.returns-in-None
returns-in-None c = parts_missing _ c.in-None.ensures.cases
