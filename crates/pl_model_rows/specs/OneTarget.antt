-- Two things have changed, and only one of them may be changed.
use Rattle.std.specs.Prelude.{ℕ, None, Some, List, [], ◌∷◌, ◌++◌, codes}
use Rattle.pl_state.specs.declared.entry.Entry.{Entry}
use Rattle.pl_events.specs.declared.event.Event.{Event}
use Rattle.pl_events.specs.declared.reply.Reply.TheVariants as reply
use Rattle.pl_decide.specs.declared.limits.Limits.{Limits}
use Rattle.pl_model.specs.declared.fixed.Fixed.{Fixed}
use Rattle.pl_model.specs.declared.mode.Mode.TheVariants.{Up}
use Rattle.pl_model_rows.specs.Pieces.{a_urn, begins, changed_in_place, checks_inputs, compares, host_done, k_at, k_one, keeps, no_change, opening, posts, provider_entry, registers, replies, run_over, stack_entry, thing, thing_told, updates}

abbrev pub only_a : Limits
only_a = record { only = Some (a_urn ∷ []); plan = None }

-- the first thing with these fields
abbrev pub a_with : ℕ → Entry
a_with k = thing (codes "a") (codes "a-1") (k_at k)

abbrev pub b_entry : Entry
b_entry = thing (codes "b") (codes "b-1") k_one

abbrev pub run : Fixed
run = record (run_over Up (stack_entry ∷ provider_entry ∷ a_with 1 ∷ b_entry ∷ []) []) { limits = only_a }

-- the first thing is updated; the second is compared with the inputs that it has
abbrev pub events : List Event
events =
    opening (thing_told (codes "a") (k_at 2))
    ++ begins 2 0 (checks_inputs 2) ∷ replies 2 (reply.Checked (k_at 2)) ∷ begins 3 0 (compares 2) ∷ replies 3 changed_in_place
    ∷ begins 4 0 (updates 2) ∷ replies 4 (reply.Changed (k_at 2)) ∷ posts 2
    ∷ registers 3 (thing_told (codes "b") (k_at 2))
    ∷ begins 5 0 (checks_inputs 3) ∷ replies 5 (reply.Checked k_one) ∷ begins 6 0 (compares 3) ∷ replies 6 no_change
    ∷ keeps 3 ∷ posts 3 ∷ host_done ∷ []
