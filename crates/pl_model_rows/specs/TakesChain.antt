-- A thing is replaced, the old one deleted first: what depends on it is deleted before it, but for a thing that the
-- program has made depend on nothing and whose update is under way.
use Rattle.std.specs.Prelude.{ℕ, List, [], ◌∷◌, ◌++◌, codes}
use Rattle.pl_state.specs.declared.entry.Entry.{Entry}
use Rattle.pl_state.specs.declared.goal.Registration.{Registration}
use Rattle.pl_state.specs.declared.pending.Pending.{Pending}
use Rattle.pl_events.specs.declared.event.Event.{Event}
use Rattle.pl_events.specs.declared.reply.Reply.TheVariants as reply
use Rattle.pl_model.specs.declared.fixed.Fixed.{Fixed}
use Rattle.pl_model.specs.declared.mode.Mode.TheVariants.{Up}
use Rattle.pl_model_rows.specs.CreateFirst.{old_a}
use Rattle.pl_model_rows.specs.Pieces.{a_urn, at_seat, b_urn, begins, changed, changed_in_place, checks_inputs, compares, configures, creates, deletes, fixed_at, k_at, k_one, opening, posts, provider_entry, registers, replies, run_over, stack_entry, thing, thing_told, thing_urn, updates, updating}
use Rattle.pl_model_rows.specs.Resumed.{a_told}

abbrev pub c_urn : List ℕ
c_urn = thing_urn (codes "c")

-- a thing with this name and id that depends on another one
abbrev pub thing_on : List ℕ → List ℕ → List ℕ → Entry
thing_on name given urn = record (thing name given k_one) { dependencies = urn ∷ [] }

abbrev pub old_e : Entry
old_e = thing_on (codes "e") (codes "e-1") a_urn

-- the last thing, which depends on nothing any more
abbrev pub new_e : Entry
new_e = thing (codes "e") (codes "e-1") (k_at 2)

abbrev pub updating_e : Pending
updating_e = updating (record new_e { outputs = k_one })

-- each depends on the one before it, but the last on the first
abbrev pub rows : List Entry
rows =
    stack_entry ∷ provider_entry ∷ old_a ∷ thing_on (codes "b") (codes "b-1") a_urn ∷ thing_on (codes "c") (codes "c-1") b_urn
    ∷ thing_on (codes "d") (codes "d-1") c_urn ∷ old_e ∷ []

-- two children of the provider may run
abbrev pub run : Fixed
run = record (run_over Up rows []) { parallel = 2 }

abbrev pub e_told : Registration
e_told = thing_told (codes "e") (k_at 2)

abbrev pub told_on : List ℕ → List ℕ → Registration
told_on name urn = record (thing_told name k_one) { dependencies = urn ∷ [] }

-- the last thing is updated, and while that is under way, the first one is decided, on a second lane
abbrev pub deciding : List Event
deciding =
    opening e_told
    ++ begins 2 0 (checks_inputs 2) ∷ replies 2 (reply.Checked (k_at 2)) ∷ begins 3 0 (compares 2) ∷ replies 3 changed_in_place
    ∷ at_seat 1 (begins 4 0 (updates 2)) ∷ registers 3 a_told ∷ begins 5 1 (configures 1) ∷ replies 5 reply.Configured
    ∷ begins 6 1 (checks_inputs 3) ∷ replies 6 (reply.Checked (fixed_at 2)) ∷ begins 7 1 (compares 3) ∷ replies 7 (changed (codes "fixed")) ∷ []

-- its chain is deleted from the end on
abbrev pub taking : List Event
taking =
    deciding
    ++ begins 8 1 (deletes 5) ∷ replies 8 reply.Removed ∷ begins 9 1 (deletes 4) ∷ replies 9 reply.Removed
    ∷ begins 10 1 (deletes 3) ∷ replies 10 reply.Removed ∷ []

-- the update ends; then the first thing itself is deleted and made anew
abbrev pub replacing : List Event
replacing =
    taking
    ++ at_seat 1 (replies 4 (reply.Changed (k_at 2))) ∷ posts 2
    ∷ begins 11 0 (deletes 2) ∷ replies 11 reply.Removed ∷ begins 12 0 (creates 3) ∷ replies 12 (reply.Made (codes "a-2") (fixed_at 2)) ∷ posts 3 ∷ []

-- what the chain took is registered and checked without old inputs
abbrev pub checking : List Event
checking =
    replacing
    ++ registers 4 (told_on (codes "b") a_urn) ∷ registers 5 (told_on (codes "c") b_urn) ∷ registers 6 (told_on (codes "d") c_urn)
    ∷ begins 13 0 (checks_inputs 4) ∷ replies 13 (reply.Checked k_one) ∷ begins 14 0 (checks_inputs 5) ∷ replies 14 (reply.Checked k_one)
    ∷ begins 15 0 (checks_inputs 6) ∷ replies 15 (reply.Checked k_one) ∷ []

-- all of it is made, one after another
abbrev pub events : List Event
events =
    checking
    ++ begins 16 0 (creates 4) ∷ replies 16 (reply.Made (codes "b-2") k_one) ∷ begins 17 0 (creates 5) ∷ replies 17 (reply.Made (codes "c-2") k_one)
    ∷ begins 18 0 (creates 6) ∷ replies 18 (reply.Made (codes "d-2") k_one) ∷ []
