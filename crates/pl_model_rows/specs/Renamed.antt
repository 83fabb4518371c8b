-- A thing has another name in the program than in the state, where a second thing depends on it; its alias tells the
-- old name. Nothing else has changed.
use Rattle.std.specs.Prelude.{ℕ, Some, List, [], ◌∷◌, codes}
use Rattle.pl_state.specs.declared.entry.Entry.{Entry}
use Rattle.pl_state.specs.declared.goal.Registration.{Registration}
use Rattle.pl_events.specs.declared.event.Event.{Event}
use Rattle.pl_events.specs.declared.reply.Reply.TheVariants as reply
use Rattle.pl_model.specs.declared.fixed.Fixed.{Fixed}
use Rattle.pl_model.specs.Entries.{Turning}
use Rattle.pl_model.specs.declared.mode.Mode.TheVariants.{Up}
use Rattle.pl_model_rows.specs.Pieces.{a_urn, begins, checks_inputs, checks_provider, compares, configures, host_done, k_one, keeps, no_change, posts, provider_entry, registers, replies, run_over, stack_entry, stack_told, thing, thing_told, thing_urn, unread}

abbrev pub new_urn : List ℕ
new_urn = thing_urn (codes "a2")

abbrev pub old_entry : Entry
old_entry = record (thing (codes "a") (codes "a-1") k_one) { rest = unread }

-- the second thing, which depends on a thing with this URN, as a whole and in one property
abbrev pub b_on : List ℕ → Entry
b_on urn = record (thing (codes "b") (codes "b-1") k_one) {
  dependencies = urn ∷ [];
  property_dependencies = (codes "k", urn ∷ []) ∷ [];
}

-- the renamed entry keeps the id, the outputs and the unread fields
abbrev pub new_entry : Entry
new_entry = record (thing (codes "a2") (codes "a-1") k_one) { aliases = a_urn ∷ []; rest = unread }

abbrev pub run : Fixed
run = run_over Up (stack_entry ∷ provider_entry ∷ old_entry ∷ b_on a_urn ∷ []) []

abbrev pub new_told : Registration
new_told = record (thing_told (codes "a2") k_one) { aliases = a_urn ∷ [] }

abbrev pub b_told : Registration
b_told = record (thing_told (codes "b") k_one) {
  dependencies = new_urn ∷ [];
  property_dependencies = (codes "k", new_urn ∷ []) ∷ [];
}

abbrev pub events : List Event
events =
    registers 1 stack_told ∷ keeps 0 ∷ posts 1 ∷ registers 2 new_told
    ∷ begins 0 0 (checks_provider 1) ∷ replies 0 (reply.Checked []) ∷ begins 1 0 (configures 1) ∷ replies 1 reply.Configured
    ∷ keeps 1
    ∷ begins 2 0 (checks_inputs 2) ∷ replies 2 (reply.Checked k_one) ∷ begins 3 0 (compares 2) ∷ replies 3 no_change
    ∷ keeps 2 ∷ posts 2 ∷ registers 3 b_told
    ∷ begins 4 0 (checks_inputs 3) ∷ replies 4 (reply.Checked k_one) ∷ begins 5 0 (compares 3) ∷ replies 5 no_change
    ∷ keeps 3 ∷ posts 3 ∷ host_done ∷ []

abbrev pub entries : List Entry
entries = stack_entry ∷ provider_entry ∷ new_entry ∷ b_on new_urn ∷ []

-- an entry whose every reference is to one URN
abbrev pub all_on : List ℕ → Entry
all_on urn = record (b_on urn) { urn = urn; parent = Some urn; provider = Some (record { urn = urn; id = codes "1" }) }

abbrev pub renaming : Turning
renaming = record { old = a_urn; new = new_urn }
