-- Everything is deleted: a stack, its provider, a thing, and a second thing that the deletion of the first takes along.
use Rattle.std.specs.Prelude.{ℕ, None, Some, List, [], ◌∷◌, codes}
use Rattle.pl_state.specs.declared.entry.Entry.{Entry}
use Rattle.pl_events.specs.declared.event.Event.{Event}
use Rattle.pl_events.specs.declared.reply.Reply.TheVariants as reply
use Rattle.pl_decide.specs.declared.limits.Limits.{Limits}
use Rattle.pl_model.specs.declared.fixed.Fixed.{Fixed}
use Rattle.pl_model.specs.declared.mode.Mode.TheVariants.{Destroy}
use Rattle.pl_model_rows.specs.Pieces.{begins, configures_row, deletes, drops, k_one, provider_entry, replies, run_over, stack_entry, thing, thing_urn}

abbrev pub x_urn : List ℕ
x_urn = thing_urn (codes "x")

abbrev pub x_entry : Entry
x_entry = thing (codes "x") (codes "x-1") k_one

abbrev pub y_entry : Entry
y_entry = record (thing (codes "y") (codes "y-1") k_one) { deleted_with = Some x_urn }

abbrev pub run : Fixed
run = run_over Destroy (stack_entry ∷ provider_entry ∷ x_entry ∷ y_entry ∷ []) []

-- the second thing is dropped, since the deletion of the first takes it along
abbrev pub events : List Event
events =
    drops 3 ∷ begins 0 0 (configures_row 1) ∷ replies 0 reply.Configured
    ∷ begins 1 0 (deletes 2) ∷ replies 1 reply.Removed ∷ drops 1 ∷ drops 0 ∷ []

-- the same where the second thing has no provider
abbrev pub without_provider : Fixed
without_provider = run_over Destroy (stack_entry ∷ provider_entry ∷ x_entry ∷ record y_entry { provider = None } ∷ []) []

abbrev pub only_y : Limits
only_y = record { only = Some (thing_urn (codes "y") ∷ []); plan = None }

-- the same where the second thing alone may be deleted
abbrev pub of_y_alone : Fixed
of_y_alone = record run { limits = only_y }
