-- The columns of a summary change by an event as the parts that keep them do.
use Rattle.std.specs.Prelude.{◌≡◌, ℕ}
use Rattle.pl_errands.specs.Tickets.{tickets_after, tickets_in}
use Rattle.pl_events.specs.declared.event.What.{What}
use Rattle.pl_model.specs.declared.fixed.Fixed.{Fixed}
use Rattle.pl_model.specs.Step.{Summary, after}

-- tickets and lanes: operations that are begun, answered and lost
abbrev pub TicketsFollow : Type 0
TicketsFollow = (run : Fixed) (before : Summary) (seat : ℕ) (what : What)
    → tickets_in (after run before (record { seat = seat; what = what })) ≡ tickets_after seat what (tickets_in before)
