-- Everything is read anew: of three things, two are gone, and the third hangs below one of them. The deletion of one
-- and the creation of a fourth are pending.
use Rattle.std.specs.Prelude.{ℕ, ◌++◌, Bool, true, false, None, Some, List, [], ◌∷◌, codes}
use Rattle.pl_state.specs.declared.entry.Entry.{Entry}
use Rattle.pl_state.specs.declared.pending.Pending.{Pending}
use Rattle.pl_events.specs.declared.event.Event.{Event}
use Rattle.pl_events.specs.declared.reply.Reply.{Reply}
use Rattle.pl_events.specs.declared.reply.Reply.TheVariants as reply
use Rattle.pl_model.specs.declared.fixed.Fixed.{Fixed}
use Rattle.pl_model.specs.declared.mode.Mode.TheVariants.{Refresh}
use Rattle.pl_model_rows.specs.Pieces.{a_urn, begins, clears, configures_row, creating, deleting, k_one, new_thing, provider_entry, reads, reads_pending, replies, run_over, stack_entry, thing, thing_urn}

abbrev pub a_entry : Entry
a_entry = thing (codes "a") (codes "a-1") k_one

abbrev pub b_left : Entry
b_left = thing (codes "b") (codes "b-1") k_one

abbrev pub b_entry : Entry
b_entry = record b_left { parent = Some a_urn; dependencies = a_urn ∷ [] }

abbrev pub c_entry : Entry
c_entry = thing (codes "c") (codes "c-1") k_one

abbrev pub c_deleting : Pending
c_deleting = deleting c_entry

abbrev pub d_urn : List ℕ
d_urn = thing_urn (codes "d")

abbrev pub d_creating : Pending
d_creating = creating (new_thing (codes "d") k_one)

-- the run; the creation is let go where the command says so
abbrev pub run_with : Bool → Fixed
run_with clear =
    run_over (Refresh clear []) (stack_entry ∷ provider_entry ∷ a_entry ∷ b_entry ∷ c_entry ∷ []) (c_deleting ∷ d_creating ∷ [])

abbrev pub run : Fixed
run = run_with false

-- what is found of a thing that has not changed
abbrev pub found : List ℕ → Reply
found given = reply.Found given (Some k_one) k_one

-- the lane is configured, and then the last row is read, which closes its deletion, and the two before it
abbrev pub events : List Event
events =
    begins 0 0 (configures_row 1) ∷ replies 0 reply.Configured
    ∷ begins 1 0 (reads 4) ∷ replies 1 reply.Gone ∷ clears 0
    ∷ begins 2 0 (reads 3) ∷ replies 2 (found (codes "b-1"))
    ∷ begins 3 0 (reads 2) ∷ replies 3 reply.Gone ∷ []

-- the same, where the creation is let go before all
abbrev pub clearing : List Event
clearing = clears 1 ∷ events

-- the creation is closed by its thing's id, whatever the command says of the others
abbrev pub importing : Fixed
importing = run_over (Refresh true ((codes "d-1", d_urn) ∷ [])) (stack_entry ∷ provider_entry ∷ []) (d_creating ∷ [])

abbrev pub before_import : List Event
before_import = begins 0 0 (configures_row 1) ∷ replies 0 reply.Configured ∷ begins 1 0 (reads_pending 0) ∷ []

abbrev pub imported : List Event
imported = before_import ++ replies 1 (found (codes "d-1")) ∷ []

abbrev pub not_imported : List Event
not_imported = before_import ++ replies 1 reply.Gone ∷ []

-- a thing without a provider, a pending creation whose provider is no row, and an import of nothing that is pending
abbrev pub hindered : Fixed
hindered =
    run_over (Refresh false ((codes "d-1", d_urn) ∷ (codes "z-1", thing_urn (codes "z")) ∷ []))
    (stack_entry ∷ record a_entry { provider = None } ∷ []) (d_creating ∷ [])
