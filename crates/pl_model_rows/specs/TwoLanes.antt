-- Two things that do not depend on each other are created at once, on two lanes of their provider, and the provider
-- answers an invoke.
use Rattle.std.specs.Prelude.{None, List, [], ◌∷◌, ◌++◌, codes}
use Rattle.pl_state.specs.declared.entry.Entry.{Entry}
use Rattle.pl_state.specs.declared.pending.Pending.{Pending}
use Rattle.pl_events.specs.declared.event.Event.{Event}
use Rattle.pl_events.specs.declared.reply.Reply.TheVariants as reply
use Rattle.pl_model.specs.declared.fixed.Fixed.{Fixed}
use Rattle.pl_model.specs.declared.mode.Mode.TheVariants.{Up}
use Rattle.pl_model_rows.specs.Pieces.{at_seat, begins, checks_inputs, configures, creates, creating, first_opening, host_done, invokes, k_at, k_one, new_thing, posts, registers, replies, run_over, tells_invoke, thing, thing_told}

-- two children of the provider may run
abbrev pub run : Fixed
run = record (run_over Up [] []) { parallel = 2 }

-- the first thing is being created on the first lane, by the thread at another seat, when the second is told
abbrev pub both_sent : List Event
both_sent =
    first_opening (thing_told (codes "a") k_one)
    ++ begins 2 0 (checks_inputs 2) ∷ replies 2 (reply.Checked k_one) ∷ at_seat 1 (begins 3 0 (creates 2))
    ∷ registers 3 (thing_told (codes "b") k_one) ∷ begins 4 1 (configures 1) ∷ replies 4 reply.Configured
    ∷ begins 5 1 (checks_inputs 3) ∷ replies 5 (reply.Checked k_one) ∷ begins 6 1 (creates 3) ∷ []

-- the second one is made first; its lane then takes the invoke
abbrev pub events : List Event
events =
    both_sent
    ++ tells_invoke 4 (codes "toy:index:find") (k_at 2) None ∷ replies 6 (reply.Made (codes "b-1") k_one) ∷ posts 3
    ∷ begins 7 1 (invokes 4) ∷ at_seat 1 (replies 3 (reply.Made (codes "a-1") k_one)) ∷ posts 2
    ∷ replies 7 (reply.Result (k_at 3)) ∷ posts 4 ∷ host_done ∷ []

abbrev pub b_creating : Pending
b_creating = creating (new_thing (codes "b") k_one)

abbrev pub b_entry : Entry
b_entry = thing (codes "b") (codes "b-1") k_one
