use Rattle.std.proofs.Common.{◌≡◌, false}
use Rattle.pl_desk.specs.Seats.{desk_of, number, has_turn, made}
use Rattle.pl_desk_turns.specs.Counts.{taken_in, title_at}
use Rattle.pl_desk_turns.proofs.crews.rest_until.Given as goal

abbrev pub invariant-loop : goal.invariant-loop
invariant-loop g l = (desk_of l.seat ≡ desk_of l.initial.seat) × (has_turn l.seat ≡ false) × (number l.seat ≡ number l.initial.seat) × (made l.seat ≡ made l.initial.seat) × (taken_in l.seat ≡ taken_in l.initial.seat) × (title_at l.seat ≡ title_at l.initial.seat)
