use Rattle.pl_urn.proofs.Calls.{contains_cut}
use Rattle.pl_entries.proofs.ids.has_cut.Goals as goal

pub returns : goal.returns
returns c = contains_cut _ _ c.contains.ensures.cases
