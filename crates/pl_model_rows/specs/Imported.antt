-- A thing that is there already is taken over by its id, over nothing.
use Rattle.std.specs.Prelude.{None, Some, List, [], ◌∷◌, ◌++◌, codes}
use Rattle.pl_state.specs.declared.entry.Entry.{Entry}
use Rattle.pl_state.specs.declared.goal.Registration.{Registration}
use Rattle.pl_events.specs.declared.event.Event.{Event}
use Rattle.pl_events.specs.declared.reply.Reply.TheVariants as reply
use Rattle.pl_model.specs.declared.fixed.Fixed.{Fixed}
use Rattle.pl_model.specs.declared.mode.Mode.TheVariants.{Up}
use Rattle.pl_model_rows.specs.Pieces.{begins, checks_inputs, first_opening, host_done, k_one, posts, reads_goal, replies, run_over, thing, thing_told}

abbrev pub run : Fixed
run = run_over Up [] []

abbrev pub a_told : Registration
a_told = record (thing_told (codes "a") k_one) { import_id = Some (codes "a-9") }

abbrev pub until_read : List Event
until_read =
    first_opening a_told ++ begins 2 0 (checks_inputs 2) ∷ replies 2 (reply.Checked k_one) ∷ begins 3 0 (reads_goal 2) ∷ []

abbrev pub events : List Event
events = until_read ++ replies 3 (reply.Found (codes "a-9") None k_one) ∷ posts 2 ∷ host_done ∷ []

abbrev pub missing : List Event
missing = until_read ++ replies 3 reply.Gone ∷ []

abbrev pub a_entry : Entry
a_entry = record (thing (codes "a") (codes "a-9") k_one) { import_id = Some (codes "a-9") }
