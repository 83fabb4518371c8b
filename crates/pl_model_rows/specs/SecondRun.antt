-- The same stack and thing once more, over what the first run left: nothing has changed.
use Rattle.std.specs.Prelude.{Some, List, [], ◌∷◌, codes}
use Rattle.pl_state.specs.declared.entry.Entry.{Entry}
use Rattle.pl_events.specs.declared.event.Event.{Event}
use Rattle.pl_events.specs.declared.reply.Reply.TheVariants as reply
use Rattle.pl_model.specs.declared.fixed.Fixed.{Fixed}
use Rattle.pl_model.specs.declared.mode.Mode.TheVariants.{Up}
use Rattle.pl_model_rows.specs.FirstCreate.{a_told, entries}
use Rattle.pl_model_rows.specs.Pieces.{begins, checks_inputs, checks_provider, compares, configures, host_done, k_one, keeps, no_change, posts, provider_entry, registers, replies, run_over, stack_entry, stack_told, unread}

abbrev pub run : Fixed
run = run_over Up entries []

-- the provider keeps the id of its row, so that its keep carries no number
abbrev pub events : List Event
events =
    registers 1 stack_told ∷ keeps 0 ∷ posts 1 ∷ a_told
    ∷ begins 0 0 (checks_provider 1) ∷ replies 0 (reply.Checked []) ∷ begins 1 0 (configures 1) ∷ replies 1 reply.Configured
    ∷ keeps 1
    ∷ begins 2 0 (checks_inputs 2) ∷ replies 2 (reply.Checked k_one) ∷ begins 3 0 (compares 2) ∷ replies 3 no_change
    ∷ keeps 2 ∷ posts 2 ∷ host_done ∷ []

-- the stack's row with all that a keep leaves as it is
abbrev pub full_stack : Entry
full_stack = record stack_entry { outputs = k_one; init_errors = codes "late" ∷ []; rest = unread }

-- the provider's row with an id that no reference can name
abbrev pub odd_provider : Entry
odd_provider = record provider_entry { id = Some (codes "a::b") }

abbrev pub odd_run : Fixed
odd_run = run_over Up (full_stack ∷ odd_provider ∷ []) []
