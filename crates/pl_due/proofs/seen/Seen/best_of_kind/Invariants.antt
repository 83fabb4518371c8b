use Rattle.std.proofs.Common.{◌≡◌}
use Rattle.std.specs.List.{fold}
use Rattle.pl_due.specs.Now.{better, works_at}
use Rattle.pl_due.proofs.seen.Seen.best_of_kind.Given as goal

abbrev pub invariant-loop-number : goal.invariant-loop-number
invariant-loop-number l = l.best ≡ fold (better l.self) l.fn.first (works_at l.kind l.number)
