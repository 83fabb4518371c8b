use Rattle.std.proofs.Common.{◌≡◌, ◌+◌, ◌≤◌, false, length}
use Rattle.pl_desk.specs.Seats.{desk_of, number, has_turn, made}
use Rattle.pl_desk_speed.specs.Turns.{own, taken_in}
use Rattle.pl_desk_speed.proofs.locked.take_turns.Given as goal

abbrev pub invariant-loop-i : goal.invariant-loop-i
invariant-loop-i g l = (desk_of l.seat ≡ desk_of l.initial.seat) × (has_turn l.seat ≡ false) × (number l.seat ≡ l.by) × (made l.seat ≡ made l.initial.seat)
    × (taken_in l.seat ≡ taken_in l.initial.seat) × (length (own l.seat) ≤ length (own l.initial.seat) + l.i)
