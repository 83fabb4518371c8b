-- Everything is deleted: a stack, its provider, a thing that is to be retained, and one whose creation came to an
-- error.
use Rattle.std.specs.Prelude.{true, None, List, [], ◌∷◌, codes}
use Rattle.pl_state.specs.declared.entry.Entry.{Entry}
use Rattle.pl_state.specs.declared.pending.Pending.{Pending}
use Rattle.pl_events.specs.declared.event.Event.{Event}
use Rattle.pl_events.specs.declared.reply.Reply.TheVariants as reply
use Rattle.pl_model.specs.declared.fixed.Fixed.{Fixed}
use Rattle.pl_model.specs.declared.mode.Mode.TheVariants.{Destroy}
use Rattle.pl_model_rows.specs.Pieces.{begins, configures_row, deletes, deleting, drops, k_one, provider_entry, replies, run_over, stack_entry, thing}

abbrev pub retained : Entry
retained = record (thing (codes "k") (codes "k-1") k_one) { retain_on_delete = true }

abbrev pub half_made : Entry
half_made = record (thing (codes "x") (codes "x-1") k_one) { init_errors = codes "late" ∷ [] }

abbrev pub run : Fixed
run = run_over Destroy (stack_entry ∷ provider_entry ∷ retained ∷ half_made ∷ []) []

abbrev pub x_deleting : Pending
x_deleting = deleting half_made

-- there is no host, so that all of it is done by itself
abbrev pub events : List Event
events =
    drops 2 ∷ begins 0 0 (configures_row 1) ∷ replies 0 reply.Configured
    ∷ begins 1 0 (deletes 3) ∷ replies 1 reply.Removed ∷ drops 1 ∷ drops 0 ∷ []

-- the same with the things protected, and without a provider of the last one
abbrev pub hindered : Fixed
hindered =
    run_over Destroy
    (stack_entry ∷ provider_entry ∷ record retained { protect = true } ∷ record half_made { protect = true; provider = None } ∷ [])
    []
