-- A thing is replaced, the old one deleted before the new one is made; a run that ends between the two is taken up by
-- the next one.
use Rattle.std.specs.Prelude.{true, Some, List, [], ◌∷◌, ◌++◌, codes}
use Rattle.pl_state.specs.declared.entry.Entry.{Entry}
use Rattle.pl_state.specs.declared.goal.Registration.{Registration}
use Rattle.pl_events.specs.declared.event.Event.{Event}
use Rattle.pl_events.specs.declared.reply.Reply.TheVariants as reply
use Rattle.pl_model.specs.declared.fixed.Fixed.{Fixed}
use Rattle.pl_model.specs.declared.mode.Mode.TheVariants.{Up}
use Rattle.pl_model_rows.specs.CreateFirst.{old_a}
use Rattle.pl_model_rows.specs.Pieces.{begins, changed, checks_inputs, compares, creates, deletes, fixed_at, host_done, opening, posts, provider_entry, replies, run_over, stack_entry, thing_told}

-- the old one once it is deleted, until the new one is made
abbrev pub pending_a : Entry
pending_a = record old_a { pending_replacement = true }

abbrev pub run : Fixed
run = run_over Up (stack_entry ∷ provider_entry ∷ old_a ∷ []) []

abbrev pub a_told : Registration
a_told = record (thing_told (codes "a") (fixed_at 2)) { delete_before_replace = Some true }

abbrev pub events : List Event
events =
    opening a_told
    ++ begins 2 0 (checks_inputs 2) ∷ replies 2 (reply.Checked (fixed_at 2)) ∷ begins 3 0 (compares 2) ∷ replies 3 (changed (codes "fixed"))
    ∷ begins 4 0 (deletes 2) ∷ replies 4 reply.Removed
    ∷ begins 5 0 (creates 2) ∷ replies 5 (reply.Made (codes "a-2") (fixed_at 2)) ∷ posts 2 ∷ host_done ∷ []

-- what stands between the deletion and the creation
abbrev pub halfway : List Entry
halfway = stack_entry ∷ provider_entry ∷ pending_a ∷ []

-- the same program over that state
abbrev pub resumed : Fixed
resumed = run_over Up halfway []

abbrev pub resuming : List Event
resuming =
    opening a_told
    ++ begins 2 0 (checks_inputs 2) ∷ replies 2 (reply.Checked (fixed_at 2))
    ∷ begins 3 0 (creates 2) ∷ replies 3 (reply.Made (codes "a-2") (fixed_at 2)) ∷ posts 2 ∷ host_done ∷ []
