-- Two things, of which the second depends on the first. The first is replaced, the new one made before the old one
-- is deleted; the second has not changed.
use Rattle.std.specs.Prelude.{true, List, [], ◌∷◌, codes}
use Rattle.pl_state.specs.declared.entry.Entry.{Entry}
use Rattle.pl_state.specs.declared.goal.Registration.{Registration}
use Rattle.pl_state.specs.declared.pending.Pending.{Pending}
use Rattle.pl_events.specs.declared.event.Event.{Event}
use Rattle.pl_events.specs.declared.reply.Reply.TheVariants as reply
use Rattle.pl_model.specs.declared.fixed.Fixed.{Fixed}
use Rattle.pl_model.specs.declared.mode.Mode.TheVariants.{Up}
use Rattle.pl_model_rows.specs.Pieces.{a_urn, begins, changed, checks_inputs, checks_provider, compares, configures, creates, creating, deletes, deleting, fixed_at, host_done, k_one, keeps, new_thing, no_change, posts, provider_entry, registers, replies, run_over, stack_entry, stack_told, thing, thing_told}

abbrev pub old_a : Entry
old_a = thing (codes "a") (codes "a-1") (fixed_at 1)

abbrev pub new_a : Entry
new_a = thing (codes "a") (codes "a-2") (fixed_at 2)

-- the old one once the new one stands
abbrev pub replaced_a : Entry
replaced_a = record old_a { doomed = true }

abbrev pub b_entry : Entry
b_entry = record (thing (codes "b") (codes "b-1") k_one) { dependencies = a_urn ∷ [] }

abbrev pub run : Fixed
run = run_over Up (stack_entry ∷ provider_entry ∷ old_a ∷ b_entry ∷ []) []

abbrev pub b_told : Registration
b_told = record (thing_told (codes "b") k_one) { dependencies = a_urn ∷ [] }

-- the new one as it waits for its reply
abbrev pub a_creating : Pending
a_creating = creating (new_thing (codes "a") (fixed_at 2))

abbrev pub a_deleting : Pending
a_deleting = deleting replaced_a

abbrev pub events : List Event
events =
    registers 1 stack_told ∷ keeps 0 ∷ posts 1
    ∷ registers 2 (thing_told (codes "a") (fixed_at 2))
    ∷ begins 0 0 (checks_provider 1) ∷ replies 0 (reply.Checked []) ∷ begins 1 0 (configures 1) ∷ replies 1 reply.Configured
    ∷ keeps 1
    ∷ begins 2 0 (checks_inputs 2) ∷ replies 2 (reply.Checked (fixed_at 2))
    ∷ begins 3 0 (compares 2) ∷ replies 3 (changed (codes "fixed"))
    ∷ begins 4 0 (creates 2) ∷ replies 4 (reply.Made (codes "a-2") (fixed_at 2))
    ∷ posts 2 ∷ registers 3 b_told
    ∷ begins 5 0 (checks_inputs 3) ∷ replies 5 (reply.Checked k_one) ∷ begins 6 0 (compares 3) ∷ replies 6 no_change
    ∷ keeps 3 ∷ posts 3 ∷ host_done
    ∷ begins 7 0 (deletes 2) ∷ replies 7 reply.Removed ∷ []

-- the same over a protected row
abbrev pub protected_run : Fixed
protected_run = run_over Up (stack_entry ∷ provider_entry ∷ record old_a { protect = true } ∷ b_entry ∷ []) []
