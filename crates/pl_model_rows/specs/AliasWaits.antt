-- Two things have other names in the program than in the state, and the new name of the second is the old one of the
-- first. The first is replaced, its old thing deleted before the new one is made; a third thing, which the program has
-- no more, depends on the second.
use Rattle.std.specs.Prelude.{ℕ, true, Some, List, [], ◌∷◌, ◌++◌, codes}
use Rattle.pl_state.specs.declared.entry.Entry.{Entry}
use Rattle.pl_state.specs.declared.goal.Registration.{Registration}
use Rattle.pl_events.specs.declared.event.Event.{Event}
use Rattle.pl_events.specs.declared.reply.Reply.TheVariants as reply
use Rattle.pl_model.specs.declared.fixed.Fixed.{Fixed}
use Rattle.pl_model.specs.declared.mode.Mode.TheVariants.{Up}
use Rattle.pl_model_rows.specs.CreateFirst.{old_a}
use Rattle.pl_model_rows.specs.Pieces.{a_urn, b_urn, begins, changed, checks_inputs, compares, creates, deletes, fixed_at, k_one, keeps, no_change, opening, posts, provider_entry, registers, replies, run_over, stack_entry, thing, thing_told, thing_urn}
use Rattle.pl_model_rows.specs.Resumed.{pending_a}

abbrev pub c_urn : List ℕ
c_urn = thing_urn (codes "c")

abbrev pub old_b : Entry
old_b = thing (codes "b") (codes "b-1") k_one

-- the third thing, which depends on a thing with this URN
abbrev pub d_on : List ℕ → Entry
d_on urn = record (thing (codes "d") (codes "d-1") k_one) { dependencies = urn ∷ [] }

abbrev pub run : Fixed
run = run_over Up (stack_entry ∷ provider_entry ∷ old_a ∷ old_b ∷ d_on b_urn ∷ []) []

-- what was `a` is to be `c`, and what was `b` is to be `a`
abbrev pub c_told : Registration
c_told = record (thing_told (codes "c") (fixed_at 2)) { aliases = a_urn ∷ []; delete_before_replace = Some true }

abbrev pub a_told : Registration
a_told = record (thing_told (codes "a") k_one) { aliases = b_urn ∷ [] }

-- what was `a` is deleted; the creation of `c` waits for its reply
abbrev pub until_create : List Event
until_create =
    opening c_told
    ++ begins 2 0 (checks_inputs 2) ∷ replies 2 (reply.Checked (fixed_at 2)) ∷ begins 3 0 (compares 2) ∷ replies 3 (changed (codes "fixed"))
    ∷ registers 3 a_told ∷ begins 4 0 (deletes 2) ∷ replies 4 reply.Removed
    ∷ begins 5 0 (checks_inputs 3) ∷ replies 5 (reply.Checked k_one) ∷ begins 6 0 (compares 3) ∷ replies 6 no_change
    ∷ begins 7 0 (creates 2) ∷ []

abbrev pub events : List Event
events = until_create ++ replies 7 (reply.Made (codes "c-1") (fixed_at 2)) ∷ posts 2 ∷ keeps 3 ∷ posts 3 ∷ []

abbrev pub new_a : Entry
new_a = record (thing (codes "a") (codes "b-1") k_one) { aliases = b_urn ∷ [] }

abbrev pub new_c : Entry
new_c = record (thing (codes "c") (codes "c-1") (fixed_at 2)) { aliases = a_urn ∷ [] }

-- the creation comes to an error
abbrev pub failing : List Event
failing = until_create ++ replies 7 (reply.Error (codes "full")) ∷ []

-- what that leaves
abbrev pub halfway : List Entry
halfway = stack_entry ∷ provider_entry ∷ pending_a ∷ old_b ∷ d_on b_urn ∷ []

-- the same program over what that left
abbrev pub resumed : Fixed
resumed = run_over Up halfway []

-- nothing is left of the first thing to delete, and both goals are decided before the creation is begun
abbrev pub resuming : List Event
resuming =
    opening c_told
    ++ begins 2 0 (checks_inputs 2) ∷ replies 2 (reply.Checked (fixed_at 2)) ∷ registers 3 a_told
    ∷ begins 3 0 (checks_inputs 3) ∷ replies 3 (reply.Checked k_one) ∷ begins 4 0 (compares 3) ∷ replies 4 no_change ∷ []
