-- A stack and one component below it, over nothing.
use Rattle.std.specs.Prelude.{ℕ, Some, List, [], ◌∷◌, take, ◌++◌, codes}
use Rattle.pl_state.specs.Component.{component_entry, plain_registration}
use Rattle.pl_state.specs.declared.entry.Entry.{Entry}
use Rattle.pl_state.specs.declared.goal.Registration.{Registration}
use Rattle.pl_events.specs.declared.event.Event.{Event}
use Rattle.pl_model.specs.declared.fixed.Fixed.{Fixed}
use Rattle.pl_model.specs.declared.mode.Mode.TheVariants.{Up}
use Rattle.pl_model_rows.specs.Pieces.{host_done, keeps, k_one, posts, registers, run_over, stack_told, stack_urn, tells_outputs}

abbrev pub run : Fixed
run = run_over Up [] []

abbrev pub site_type : List ℕ
site_type = codes "my:index:Site"

abbrev pub site_urn : List ℕ
site_urn = codes "urn:pulumi:dev::web::my:index:Site::s"

abbrev pub site_told : Registration
site_told = plain_registration site_type (codes "s") (Some stack_urn)

abbrev pub site_entry : Entry
site_entry = component_entry site_urn site_type (Some stack_urn)

-- each of the two is told, kept and answered
abbrev pub events : List Event
events = registers 1 stack_told ∷ keeps 0 ∷ posts 1 ∷ registers 2 site_told ∷ keeps 1 ∷ posts 2 ∷ host_done ∷ []

-- the component's outputs are told before the host ends
abbrev pub with_outputs : List Event
with_outputs = take 6 events ++ tells_outputs 3 site_urn k_one ∷ []
