use Rattle.std.proofs.Common.{◌≡◌, replicate}
use Rattle.pl_claims.specs.Marks.{no_mark}
use Rattle.pl_claims.proofs.mark.no_marks.Given as goal

abbrev pub invariant-loop : goal.invariant-loop
invariant-loop l = l.marks.items ≡ replicate l.counter no_mark
