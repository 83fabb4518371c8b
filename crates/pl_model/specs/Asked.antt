-- What a provider is asked by an operation.
use Rattle.std.specs.Prelude.{ℕ, Option, None, Some, List, [], find, option_map, option_and_then}
use Rattle.std.specs.Option.{option_or}
use Rattle.pl_state.specs.Kinds.{kin_of}
use Rattle.pl_state.specs.declared.entry.Entry.{Entry}
use Rattle.pl_state.specs.declared.goal.Goal.{Goal}
use Rattle.pl_events.specs.declared.event.Request.{Request}
use Rattle.pl_events.specs.declared.event.Request.TheVariants.{Invoke}
use Rattle.pl_events.specs.declared.operation.Ask.{Ask}
use Rattle.pl_events.specs.declared.operation.Ask.TheVariants as ask
use Rattle.pl_events.specs.declared.operation.Call.{Call}
use Rattle.pl_events.specs.declared.operation.Call.TheVariants as call
use Rattle.pl_events.specs.declared.operation.Op.{Op}
use Rattle.pl_events.specs.declared.operation.Op.TheVariants as op
use Rattle.pl_events.specs.declared.operation.Source.{Source}
use Rattle.pl_events.specs.declared.operation.Source.TheVariants as source
use Rattle.pl_events.specs.declared.operation.Subject.{Subject}
use Rattle.pl_events.specs.declared.operation.Subject.TheVariants as subject
use Rattle.pl_model.specs.Run.{Pairs, imports_of}
use Rattle.pl_model.specs.declared.decided.Decided.{Decided}
use Rattle.pl_lemmas.specs.Words.{is_row}
use Rattle.pl_model.specs.Claims.{claimed_row}
use Rattle.pl_model.specs.Decisions.{Turn, checked_at, inputs_at, kin_at}
use Rattle.pl_model.specs.Entries.{old_row}
use Rattle.pl_model.specs.Known.{Known, asked_at, decided_goal, goal_at, turn_of_goal}
use Rattle.pl_model.specs.Problems.{pending_create}
use Rattle.pl_model.specs.Rows.{pending_at, row_at}

-- the call by which an operation is asked for
abbrev pub call_of : Op → Call
call_of (op.CheckConfig about) = call.CheckConfig
call_of (op.Configure provider) = call.Configure
call_of (op.Check about) = call.Check
call_of (op.Diff about) = call.Diff
call_of (op.Create about) = call.Create
call_of (op.Update about) = call.Update
call_of (op.Delete about) = call.Delete
call_of (op.Read about) = call.Read
call_of (op.Invoke n) = call.Invoke

abbrev pub inputs_of_row : Entry → Pairs
inputs_of_row row = row.inputs

-- an id; one that is not there is asked as the empty text
abbrev pub id_or_empty : Option (List ℕ) → List ℕ
id_or_empty None = []
id_or_empty (Some id) = id

-- what stands of a goal before it is decided
abbrev pub turn_on : Known → Subject → Option Turn
turn_on known (subject.Goal number) = turn_of_goal known number
turn_on known _ = None

abbrev pub ask_config : Turn → Ask
ask_config turn = ask.CheckConfig turn.goal.urn (inputs_at turn) (option_map inputs_of_row (kin_at turn))

abbrev pub ask_check : Turn → Ask
ask_check turn = ask.Check turn.goal.urn (inputs_at turn) (option_map inputs_of_row (kin_at turn))

abbrev pub ask_diff_over : Turn → Pairs → Entry → Ask
ask_diff_over turn checked kin = ask.Diff turn.goal.urn (id_or_empty kin.id) kin.inputs kin.outputs checked

abbrev pub ask_diff : Turn → Option Ask
ask_diff turn = option_and_then (λ checked. option_map (ask_diff_over turn checked) (kin_at turn)) (checked_at turn)

-- the inputs that a provider is configured with: a goal's as its check gave them, a row's as it has them
abbrev pub provider_inputs : Known → Source → Option Pairs
provider_inputs known (source.Goal number) = option_map (λ one. one.checked) (decided_goal known number)
provider_inputs known (source.Row row) = option_map inputs_of_row (row_at known row)

-- ---- what is asked of a decided goal

abbrev pub of_goal : {X : Type 0} → Known → Subject → (Goal → Decided → Option X) → Option X
of_goal known (subject.Goal number) asked =
    option_and_then (λ goal. option_and_then (asked goal) (decided_goal known number)) (goal_at known number)
of_goal known _ asked = None

abbrev pub ask_create : Goal → Decided → Option Ask
ask_create goal one = Some (ask.Create goal.urn one.checked)

abbrev pub ask_update_over : Goal → Decided → Entry → Ask
ask_update_over goal one kin = ask.Update goal.urn (id_or_empty kin.id) kin.inputs kin.outputs one.checked

abbrev pub ask_update : Known → Goal → Decided → Option Ask
ask_update known goal one = option_map (ask_update_over goal one) (kin_of (claimed_row known.run one.claim))

-- the id by which the command imports a pending creation
abbrev pub import_id : Known → ℕ → Option (List ℕ)
import_id known at =
    option_map (λ pair. pair.0)
    (find (λ pair. is_row (pending_create known.run pair.1) at) (imports_of known.run.mode))

-- the id under which a goal's thing is read: the one that it reads, or the one that it imports
abbrev pub ask_read_goal : Goal → Decided → Option Ask
ask_read_goal goal one =
    Some (ask.Read goal.urn (id_or_empty (option_or goal.read_id goal.import_id)) one.checked [])

-- ---- what is asked of rows, pending operations and tokens

abbrev pub ask_delete : Entry → Ask
ask_delete row = ask.Delete row.urn (id_or_empty row.id) row.inputs row.outputs

abbrev pub ask_read_row : Entry → Ask
ask_read_row row = ask.Read row.urn (id_or_empty row.id) row.inputs row.outputs

abbrev pub ask_import : Known → ℕ → Option Ask
ask_import known at =
    option_map (λ pending. ask.Read pending.entry.urn (id_or_empty (import_id known at)) pending.entry.inputs []) (pending_at known at)

abbrev pub ask_read : Known → Subject → Option Ask
ask_read known (subject.Goal number) = of_goal known (subject.Goal number) ask_read_goal
ask_read known (subject.Row row) = option_map ask_read_row (row_at known row)
ask_read known (subject.Pending at) = ask_import known at

abbrev pub ask_row : Known → Subject → Option Ask
ask_row known (subject.Row row) = option_map ask_delete (old_row known row)
ask_row known _ = None

abbrev pub ask_invoke : Request → Option Ask
ask_invoke (Invoke n token args provider version) = Some (ask.Invoke token args)
ask_invoke _ = None

-- what a provider is asked by an operation that is begun after this history
abbrev pub ask_of : Known → Op → Option Ask
ask_of known (op.CheckConfig about) = option_map ask_config (turn_on known about)
ask_of known (op.Configure provider) = option_map ask.Configure (provider_inputs known provider)
ask_of known (op.Check about) = option_map ask_check (turn_on known about)
ask_of known (op.Diff about) = option_and_then ask_diff (turn_on known about)
ask_of known (op.Create about) = of_goal known about ask_create
ask_of known (op.Update about) = of_goal known about (ask_update known)
ask_of known (op.Delete about) = ask_row known about
ask_of known (op.Read about) = ask_read known about
ask_of known (op.Invoke n) = option_and_then (λ asked. ask_invoke asked.request) (asked_at known n)
