use Rattle.pl_told.proofs.Undoing.{undone}
use Rattle.pl_told.proofs.laws.changes_are_undone.Goals as goal

pub returns : goal.returns
returns c = undone
