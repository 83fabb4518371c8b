use Rattle.std.proofs.Common.{◌≡◌, None, take}
use Rattle.pl_lemmas.specs.Words.{first_some}
use Rattle.pl_model.specs.Problems.{unread_row}
use Rattle.pl_problems.proofs.unread.first_unread.Given as goal

abbrev pub invariant-loop-row : goal.invariant-loop-row
invariant-loop-row l = first_some (unread_row) (take l.row-index l.rows) ≡ None
