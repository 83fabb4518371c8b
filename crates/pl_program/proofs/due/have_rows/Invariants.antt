use Rattle.std.proofs.Common.{◌≡◌, true, take}
use Rattle.pl_program.specs.Due.{have_rows}
use Rattle.pl_program.proofs.due.have_rows.Given as goal

-- those that were looked at are answered
abbrev pub invariant-loop-name : goal.invariant-loop-name
invariant-loop-name l = have_rows l.known (take l.name-index l.names) ≡ true
