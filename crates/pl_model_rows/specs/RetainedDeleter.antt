-- Everything is deleted: a thing names one whose deletion takes it along, and that one is to be retained.
use Rattle.std.specs.Prelude.{true, List, [], ◌∷◌}
use Rattle.pl_state.specs.declared.entry.Entry.{Entry}
use Rattle.pl_events.specs.declared.event.Event.{Event}
use Rattle.pl_events.specs.declared.reply.Reply.TheVariants as reply
use Rattle.pl_model.specs.declared.fixed.Fixed.{Fixed}
use Rattle.pl_model.specs.declared.mode.Mode.TheVariants.{Destroy}
use Rattle.pl_model_rows.specs.GoesAlong.{x_entry, y_entry}
use Rattle.pl_model_rows.specs.Pieces.{begins, configures_row, deletes, drops, provider_entry, replies, run_over, stack_entry}

abbrev pub x_retained : Entry
x_retained = record x_entry { retain_on_delete = true }

abbrev pub run : Fixed
run = run_over Destroy (stack_entry ∷ provider_entry ∷ x_retained ∷ y_entry ∷ []) []

-- nothing takes the second thing along, so that it is deleted by itself
abbrev pub events : List Event
events =
    begins 0 0 (configures_row 1) ∷ replies 0 reply.Configured ∷ begins 1 0 (deletes 3) ∷ replies 1 reply.Removed
    ∷ drops 2 ∷ drops 1 ∷ drops 0 ∷ []
