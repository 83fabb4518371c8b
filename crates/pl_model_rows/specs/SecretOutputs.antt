-- A thing is created whose registration names one of its outputs as a secret.
use Rattle.std.specs.Prelude.{ℕ, pos, List, [], ◌∷◌, ◌++◌, codes}
use Rattle.pl_value.specs.declared.value.Value.{Value}
use Rattle.pl_value.specs.declared.value.Value.TheVariants as value
use Rattle.pl_state.specs.declared.entry.Entry.{Entry}
use Rattle.pl_state.specs.declared.goal.Registration.{Registration}
use Rattle.pl_events.specs.declared.event.Event.{Event}
use Rattle.pl_events.specs.declared.reply.Reply.TheVariants as reply
use Rattle.pl_model.specs.declared.fixed.Fixed.{Fixed}
use Rattle.pl_model.specs.declared.mode.Mode.TheVariants.{Up}
use Rattle.pl_model_rows.specs.Pieces.{begins, checks_inputs, creates, first_opening, k_one, one_field, posts, replies, run_over, stack_urn, tells_outputs, thing, thing_told}

abbrev pub run : Fixed
run = run_over Up [] []

abbrev pub a_told : Registration
a_told = record (thing_told (codes "a") k_one) { additional_secret_outputs = codes "k" ∷ [] }

-- the outputs of the things, as a secret
abbrev pub k_secret : List (List ℕ × Value)
k_secret = one_field (codes "k") (value.Secret (value.Whole (pos 1)))

-- the provider says nothing of secrets
abbrev pub events : List Event
events =
    first_opening a_told
    ++ begins 2 0 (checks_inputs 2) ∷ replies 2 (reply.Checked k_one) ∷ begins 3 0 (creates 2) ∷ replies 3 (reply.Made (codes "a-1") k_one)
    ∷ posts 2 ∷ tells_outputs 3 stack_urn k_secret ∷ []

abbrev pub a_entry : Entry
a_entry = record (thing (codes "a") (codes "a-1") k_one) { outputs = k_secret; additional_secret_outputs = codes "k" ∷ [] }
