-- A thing is to be replaced, the old one deleted first, and a second thing, which depends on it, is protected.
use Rattle.std.specs.Prelude.{true, List, [], ◌∷◌, ◌++◌, codes}
use Rattle.pl_state.specs.declared.entry.Entry.{Entry}
use Rattle.pl_events.specs.declared.event.Event.{Event}
use Rattle.pl_events.specs.declared.reply.Reply.TheVariants as reply
use Rattle.pl_model.specs.declared.fixed.Fixed.{Fixed}
use Rattle.pl_model.specs.declared.mode.Mode.TheVariants.{Up}
use Rattle.pl_model_rows.specs.CreateFirst.{b_entry, old_a}
use Rattle.pl_model_rows.specs.Pieces.{begins, changed, checks_inputs, compares, fixed_at, opening, posts, provider_entry, replies, run_over, stack_entry}
use Rattle.pl_model_rows.specs.Resumed.{a_told}

abbrev pub b_protected : Entry
b_protected = record b_entry { protect = true }

abbrev pub run : Fixed
run = run_over Up (stack_entry ∷ provider_entry ∷ old_a ∷ b_protected ∷ []) []

abbrev pub events : List Event
events =
    opening a_told
    ++ begins 2 0 (checks_inputs 2) ∷ replies 2 (reply.Checked (fixed_at 2)) ∷ begins 3 0 (compares 2) ∷ replies 3 (changed (codes "fixed"))
    ∷ posts 2 ∷ []

-- the same where the second thing is not protected
abbrev pub unprotected : Fixed
unprotected = run_over Up (stack_entry ∷ provider_entry ∷ old_a ∷ b_entry ∷ []) []
