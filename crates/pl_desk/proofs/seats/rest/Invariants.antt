use Rattle.std.proofs.Common.{◌≡◌, ◌≤◌}
use Rattle.pl_desk.specs.Seats.{desk_of, place, shown, met}
use Rattle.pl_desk.specs.Posed.{unshown}
use Rattle.pl_desk.proofs.seats.rest.Given as goal

abbrev pub invariant-loop : goal.invariant-loop
invariant-loop g l = (desk_of l.seat ≡ desk_of l.initial.seat) × (unshown (place l.seat) ≡ unshown (place l.initial.seat)) × (shown l.initial.seat ≤ shown l.seat) × (met l.initial.seat ≤ met l.seat)
