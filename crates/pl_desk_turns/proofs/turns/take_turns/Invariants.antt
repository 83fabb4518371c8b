use Rattle.std.proofs.Common.{◌≡◌, ◌+◌, ◌≤◌, false, length}
use Rattle.pl_desk.specs.Seats.{desk_of, number, has_turn, made}
use Rattle.pl_desk_turns.specs.Counts.{own, taken_in, title_at}
use Rattle.pl_desk_turns.proofs.turns.take_turns.Given as goal

abbrev pub invariant-loop-i : goal.invariant-loop-i
invariant-loop-i g l = (desk_of l.seat ≡ desk_of l.initial.seat) × (has_turn l.seat ≡ false) × (number l.seat ≡ l.by) × (made l.seat ≡ made l.initial.seat) × (l.added ≤ l.i)
    × (taken_in l.seat ≡ taken_in l.initial.seat) × (title_at l.seat ≡ title_at l.initial.seat)
    × (length (own l.seat) ≡ length (own l.initial.seat) + l.added)
