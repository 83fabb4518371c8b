use Rattle.std.proofs.Common.{◌≡◌, find, reverse}
use Rattle.std.specs.List.{range_with_len}
use Rattle.pl_model.specs.Due.{is_drop_ready}
use Rattle.pl_model.specs.Rows.{row_numbers}
use Rattle.pl_due.specs.Seen.{known_in}
use Rattle.pl_due.proofs.seen.Seen.last_drop.Given as goal

abbrev pub invariant-loop-left : goal.invariant-loop-left
invariant-loop-left l =
    find (is_drop_ready (known_in l.self)) (reverse (row_numbers (known_in l.self)))
    ≡ find (is_drop_ready (known_in l.self)) (reverse (range_with_len 0 l.left))

abbrev pub decreases-loop-left : goal.decreases-loop-left
decreases-loop-left l = l.left
