use Rattle.std.proofs.Common.{◌≡◌, find, reverse}
use Rattle.std.specs.List.{range_with_len}
use Rattle.pl_due.specs.Now.{op_at, uses_now}
use Rattle.pl_due.proofs.seen.Seen.last_of_kind.Given as goal

abbrev pub invariant-loop-left : goal.invariant-loop-left
invariant-loop-left g l =
    find (λ number. uses_now l.self (g.L.LaneView.told l.lanes) (op_at l.kind number)) (reverse (range_with_len 0 l.fn.count))
    ≡ find (λ number. uses_now l.self (g.L.LaneView.told l.lanes) (op_at l.kind number)) (reverse (range_with_len 0 l.left))

abbrev pub decreases-loop-left : goal.decreases-loop-left
decreases-loop-left g l = l.left
