-- What the worked histories are made of: a stack, a provider and its things, and events in short words.
use Rattle.std.specs.Prelude.{ℕ, true, false, pos, Option, None, Some, List, [], ◌∷◌, ◌++◌, codes}
use Rattle.pl_value.specs.declared.value.Value.{Value}
use Rattle.pl_value.specs.declared.value.Value.TheVariants as value
use Rattle.pl_state.specs.Component.{bare_entry, bare_state, component_entry, plain_registration}
use Rattle.pl_state.specs.declared.entry.Entry.{Entry}
use Rattle.pl_state.specs.declared.goal.Changes.TheVariants.{NoChange, SomeChange}
use Rattle.pl_state.specs.declared.goal.Registration.{Registration}
use Rattle.pl_state.specs.declared.pending.Pending.{Pending}
use Rattle.pl_state.specs.declared.pending.PendingKind.TheVariants.{Creating, Updating, Deleting}
use Rattle.pl_reference.specs.declared.reference.ProviderRef.{ProviderRef}
use Rattle.pl_state.specs.declared.snapshot.Snapshot.{Snapshot}
use Rattle.pl_events.specs.declared.event.Event.{Event}
use Rattle.pl_events.specs.declared.event.HostEnd.TheVariants.{Success}
use Rattle.pl_events.specs.declared.event.Request.TheVariants.{Invoke, Outputs, Register}
use Rattle.pl_events.specs.declared.event.What.TheVariants.{Told, HostGone, Begun, Answered, Kept, Dropped, Cleared, Lost, Posted}
use Rattle.pl_events.specs.declared.operation.Op.{Op}
use Rattle.pl_events.specs.declared.operation.Op.TheVariants as op
use Rattle.pl_events.specs.declared.operation.Source.TheVariants as source
use Rattle.pl_events.specs.declared.operation.Subject.TheVariants as subject
use Rattle.pl_events.specs.declared.reply.Loss.TheVariants.{Ended}
use Rattle.pl_events.specs.declared.reply.Reply.{Reply}
use Rattle.pl_events.specs.declared.reply.Reply.TheVariants as reply
use Rattle.pl_decide.specs.declared.limits.Limits.{Limits}
use Rattle.pl_model.specs.declared.fixed.Fixed.{Fixed}
use Rattle.pl_model.specs.declared.mode.Mode.{Mode}

-- ---- names

abbrev pub stack_type : List ℕ
stack_type = codes "pulumi:pulumi:Stack"

abbrev pub stack_urn : List ℕ
stack_urn = codes "urn:pulumi:dev::web::pulumi:pulumi:Stack::web-dev"

abbrev pub provider_type : List ℕ
provider_type = codes "pulumi:providers:toy"

abbrev pub provider_urn : List ℕ
provider_urn = codes "urn:pulumi:dev::web::pulumi:providers:toy::default"

-- the id that is made of the first drawn number
abbrev pub first_id : List ℕ
first_id = codes "00000000-0000-4000-8000-000000000001"

abbrev pub thing_type : List ℕ
thing_type = codes "toy:index:Thing"

abbrev pub thing_urn : List ℕ → List ℕ
thing_urn name = codes "urn:pulumi:dev::web::toy:index:Thing::" ++ name

abbrev pub a_urn : List ℕ
a_urn = thing_urn (codes "a")

abbrev pub b_urn : List ℕ
b_urn = thing_urn (codes "b")

-- ---- entries

abbrev pub stack_entry : Entry
stack_entry = component_entry stack_urn stack_type None

abbrev pub provider_entry : Entry
provider_entry = record (bare_entry provider_urn true provider_type None) { id = Some first_id }

-- fields of a row that are kept unread
abbrev pub unread : List ℕ
unread = codes "{\"created\":\"2024-05-01T10:00:00Z\"}"

abbrev pub own_provider : ProviderRef
own_provider = record { urn = provider_urn; id = first_id }

-- fields with one key
abbrev pub one_field : List ℕ → Value → List (List ℕ × Value)
one_field key held = (key, held) ∷ []

-- the fields of the things: a whole number under `k`
abbrev pub k_at : ℕ → List (List ℕ × Value)
k_at n = one_field (codes "k") (value.Whole (pos n))

abbrev pub k_one : List (List ℕ × Value)
k_one = k_at 1

-- fields a change of which asks for a new thing
abbrev pub fixed_at : ℕ → List (List ℕ × Value)
fixed_at n = one_field (codes "fixed") (value.Whole (pos n))

-- a thing below the stack, before it is made
abbrev pub new_thing : List ℕ → List (List ℕ × Value) → Entry
new_thing name fields = record (bare_entry (thing_urn name) true thing_type (Some stack_urn)) {
  inputs = fields;
  provider = Some own_provider;
}

-- a thing below the stack, with the provider's id
abbrev pub thing : List ℕ → List ℕ → List (List ℕ × Value) → Entry
thing name given fields = record (new_thing name fields) { id = Some given; outputs = fields }

-- ---- runs

abbrev pub no_limits : Limits
no_limits = record { only = None; plan = None }

abbrev pub creating : Entry → Pending
creating one = record { kind = Creating; entry = one }

abbrev pub updating : Entry → Pending
updating one = record { kind = Updating; entry = one }

abbrev pub deleting : Entry → Pending
deleting one = record { kind = Deleting; entry = one }

-- the state of the stack with these entries and pending operations
abbrev pub state_with : List Entry → List Pending → Snapshot
state_with rows waiting = record (bare_state (codes "dev") rows) { pending = waiting }

-- a run over these rows and pending operations, with one child of each provider
abbrev pub run_over : Mode → List Entry → List Pending → Fixed
run_over mode rows waiting = record {
  base = state_with rows waiting;
  mode = mode;
  limits = no_limits;
  parallel = 1;
  stack = codes "dev";
  project = codes "web";
}

-- ---- operations

abbrev pub checks_provider : ℕ → Op
checks_provider goal = op.CheckConfig (subject.Goal goal)

abbrev pub configures : ℕ → Op
configures goal = op.Configure (source.Goal goal)

-- a lane for the rows of a provider's row
abbrev pub configures_row : ℕ → Op
configures_row row = op.Configure (source.Row row)

abbrev pub checks_inputs : ℕ → Op
checks_inputs goal = op.Check (subject.Goal goal)

abbrev pub compares : ℕ → Op
compares goal = op.Diff (subject.Goal goal)

abbrev pub creates : ℕ → Op
creates goal = op.Create (subject.Goal goal)

abbrev pub updates : ℕ → Op
updates goal = op.Update (subject.Goal goal)

abbrev pub deletes : ℕ → Op
deletes row = op.Delete (subject.Row row)

-- the reading of what a pending creation made
abbrev pub reads_pending : ℕ → Op
reads_pending at = op.Read (subject.Pending at)

abbrev pub reads : ℕ → Op
reads row = op.Read (subject.Row row)

-- the reading of what a goal imports
abbrev pub reads_goal : ℕ → Op
reads_goal goal = op.Read (subject.Goal goal)

abbrev pub invokes : ℕ → Op
invokes n = op.Invoke n

-- ---- events

abbrev pub registers : ℕ → Registration → Event
registers n told = record { seat = 0; what = Told (Register n told) }

abbrev pub tells_outputs : ℕ → List ℕ → List (List ℕ × Value) → Event
tells_outputs n urn fields = record { seat = 0; what = Told (Outputs n urn fields) }

-- an invoke without a version
abbrev pub tells_invoke : ℕ → List ℕ → List (List ℕ × Value) → Option (List ℕ) → Event
tells_invoke n token args provider = record { seat = 0; what = Told (Invoke n token args provider None) }

abbrev pub host_done : Event
host_done = record { seat = 0; what = HostGone Success }

abbrev pub begins : ℕ → ℕ → Op → Event
begins ticket lane about = record { seat = 0; what = Begun ticket lane about }

-- the same event by the thread at another seat
abbrev pub at_seat : ℕ → Event → Event
at_seat seat event = record event { seat = seat }

abbrev pub replies : ℕ → Reply → Event
replies ticket reply = record { seat = 0; what = Answered ticket reply }

-- the lane's output ended before the reply
abbrev pub loses : ℕ → Event
loses ticket = record { seat = 0; what = Lost ticket Ended }

abbrev pub keeps : ℕ → Event
keeps goal = record { seat = 0; what = Kept goal None }

-- a keep that carries a drawn number
abbrev pub keeps_with : ℕ → ℕ → Event
keeps_with drawn goal = record { seat = 0; what = Kept goal (Some drawn) }

abbrev pub drops : ℕ → Event
drops row = record { seat = 0; what = Dropped row }

abbrev pub clears : ℕ → Event
clears at = record { seat = 0; what = Cleared at }

abbrev pub posts : ℕ → Event
posts n = record { seat = 0; what = Posted n }

-- ---- replies to a comparison

abbrev pub no_change : Reply
no_change = reply.Diffed (record { changes = NoChange; replaces = []; delete_before_replace = false })

-- a change that is made in place
abbrev pub changed_in_place : Reply
changed_in_place = reply.Diffed (record { changes = SomeChange; replaces = []; delete_before_replace = false })

-- a change of this property, which asks for a new thing
abbrev pub changed : List ℕ → Reply
changed key = reply.Diffed (record { changes = SomeChange; replaces = key ∷ []; delete_before_replace = false })

-- ---- registrations

abbrev pub stack_told : Registration
stack_told = plain_registration stack_type (codes "web-dev") None

-- a thing below the stack
abbrev pub thing_told : List ℕ → List (List ℕ × Value) → Registration
thing_told name fields =
    record (plain_registration thing_type name (Some stack_urn)) { custom = true; inputs = fields }

-- ---- the first events of a history

-- the stack is told, kept and answered; a thing is told, and its default provider is checked and configured
abbrev pub until_configured : Registration → List Event
until_configured told =
    registers 1 stack_told ∷ keeps 0 ∷ posts 1 ∷ registers 2 told
    ∷ begins 0 0 (checks_provider 1) ∷ replies 0 (reply.Checked []) ∷ begins 1 0 (configures 1) ∷ replies 1 reply.Configured ∷ []

-- the provider is kept over its row
abbrev pub opening : Registration → List Event
opening told = until_configured told ++ keeps 1 ∷ []

-- the provider has no row, and its id is made of a drawn number
abbrev pub first_opening : Registration → List Event
first_opening told = until_configured told ++ keeps_with 1 1 ∷ []
