-- A stack and one thing below it, over nothing: the thing's default provider stands up before it is created.
use Rattle.std.specs.Prelude.{List, [], ◌∷◌, take, ◌++◌, codes}
use Rattle.pl_state.specs.declared.entry.Entry.{Entry}
use Rattle.pl_state.specs.declared.pending.Pending.{Pending}
use Rattle.pl_events.specs.declared.event.Event.{Event}
use Rattle.pl_events.specs.declared.reply.Reply.TheVariants as reply
use Rattle.pl_model.specs.declared.fixed.Fixed.{Fixed}
use Rattle.pl_model.specs.declared.mode.Mode.TheVariants.{Up}
use Rattle.pl_model_rows.specs.Pieces.{begins, checks_inputs, checks_provider, configures, creates, creating, host_done, k_one, keeps, keeps_with, loses, new_thing, posts, provider_entry, registers, replies, run_over, stack_entry, stack_told, thing, thing_told}

abbrev pub run : Fixed
run = run_over Up [] []

abbrev pub a_told : Event
a_told = registers 2 (thing_told (codes "a") k_one)

abbrev pub a_entry : Entry
a_entry = thing (codes "a") (codes "a-1") k_one

-- the thing's creation as it waits for its reply
abbrev pub a_creating : Pending
a_creating = creating (new_thing (codes "a") k_one)

-- the stack is told, kept and answered; then the thing is told, which makes a goal of its provider before its own
abbrev pub events : List Event
events =
    registers 1 stack_told ∷ keeps 0 ∷ posts 1 ∷ a_told
    ∷ begins 0 0 (checks_provider 1) ∷ replies 0 (reply.Checked []) ∷ begins 1 0 (configures 1) ∷ replies 1 reply.Configured
    ∷ keeps_with 1 1
    ∷ begins 2 0 (checks_inputs 2) ∷ replies 2 (reply.Checked k_one)
    ∷ begins 3 0 (creates 2) ∷ replies 3 (reply.Made (codes "a-1") k_one)
    ∷ posts 2 ∷ host_done ∷ []

-- all of it at its end
abbrev pub entries : List Entry
entries = stack_entry ∷ provider_entry ∷ a_entry ∷ []

-- the provider's output ends after the creation was sent
abbrev pub cut_off : List Event
cut_off = take 12 events ++ loses 3 ∷ []
