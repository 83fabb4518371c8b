use Rattle.std.proofs.Common.{◌≡◌, map, take}
use Rattle.std.specs.List.{fold}
use Rattle.pl_events.specs.declared.operation.Op.TheVariants.{Invoke}
use Rattle.pl_due.specs.Now.{better}
use Rattle.pl_due.proofs.seen.Seen.best_of_invokes.Given as goal

abbrev pub invariant-loop-n : goal.invariant-loop-n
invariant-loop-n l = l.best ≡ fold (better l.self) l.fn.first (map Invoke (take l.n-index l.n-items))
