-- A stack and two things, of which the second depends on the first, over nothing: previewed, and then made.
use Rattle.std.specs.Prelude.{ℕ, true, None, Some, List, [], ◌∷◌, ◌++◌, codes}
use Rattle.pl_value.specs.declared.value.Value.{Value}
use Rattle.pl_value.specs.declared.value.Value.TheVariants as value
use Rattle.pl_state.specs.Component.{plain_registration}
use Rattle.pl_state.specs.declared.goal.Registration.{Registration}
use Rattle.pl_events.specs.declared.event.Event.{Event}
use Rattle.pl_events.specs.declared.reply.Reply.TheVariants as reply
use Rattle.pl_model.specs.declared.fixed.Fixed.{Fixed}
use Rattle.pl_model.specs.declared.mode.Mode.{Mode}
use Rattle.pl_model_rows.specs.CreateFirst.{b_told}
use Rattle.pl_model_rows.specs.Pieces.{begins, checks_inputs, checks_provider, creates, first_id, first_opening, host_done, k_one, keeps, keeps_with, one_field, posts, provider_type, registers, replies, run_over, stack_told, tells_invoke, thing_told}

-- the run, by the command
abbrev pub run_of : Mode → Fixed
run_of mode = run_over mode [] []

-- the first thing is told and checked
abbrev pub first_told : List Event
first_told = first_opening (thing_told (codes "a") k_one) ++ begins 2 0 (checks_inputs 2) ∷ replies 2 (reply.Checked k_one) ∷ []

-- in a preview nothing is created: what would be is kept
abbrev pub previewed : List Event
previewed =
    first_told
    ++ keeps 2 ∷ posts 2 ∷ registers 3 b_told ∷ begins 3 0 (checks_inputs 3) ∷ replies 3 (reply.Checked k_one) ∷ keeps 3 ∷ posts 3 ∷ host_done ∷ []

abbrev pub made : List Event
made =
    first_told
    ++ begins 3 0 (creates 2) ∷ replies 3 (reply.Made (codes "a-1") k_one) ∷ posts 2 ∷ registers 3 b_told
    ∷ begins 4 0 (checks_inputs 3) ∷ replies 4 (reply.Checked k_one) ∷ begins 5 0 (creates 3) ∷ replies 5 (reply.Made (codes "b-1") k_one)
    ∷ posts 3 ∷ host_done ∷ []

-- ---- what is not known

abbrev pub k_unknown : List (List ℕ × Value)
k_unknown = one_field (codes "k") value.Unknown

abbrev pub own_urn : List ℕ
own_urn = codes "urn:pulumi:dev::web::pulumi:providers:toy::own"

-- a provider of the program's own
abbrev pub own_told : Registration
own_told = record (plain_registration provider_type (codes "own") None) { custom = true; inputs = k_unknown }

abbrev pub own_reference : List ℕ
own_reference = own_urn ++ codes "::" ++ first_id

-- it is kept with inputs that are not known; then an invoke is told that it would answer
abbrev pub unknown : List Event
unknown =
    registers 1 own_told ∷ begins 0 0 (checks_provider 0) ∷ replies 0 (reply.Checked k_unknown) ∷ keeps_with 1 0 ∷ posts 1
    ∷ tells_invoke 2 (codes "toy:index:find") [] (Some own_reference) ∷ []

-- a problem comes while the default provider's inputs are checked, and then an invoke is told
abbrev pub halted : List Event
halted =
    registers 1 stack_told ∷ keeps 0 ∷ posts 1 ∷ registers 2 (thing_told (codes "a") k_one) ∷ begins 0 0 (checks_provider 1)
    ∷ registers 3 stack_told ∷ tells_invoke 4 (codes "toy:index:find") k_unknown None ∷ replies 0 (reply.Checked []) ∷ []
