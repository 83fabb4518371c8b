-- The entries that events record, the rows that are left, and how an alias turns their URNs.
use Rattle.std.specs.Prelude.{ℕ, ◌==◌, Bool, true, false, not, ◌||◌, if◌then◌else◌, Option, None, Some, List, [], ◌∷◌, map, reverse, option_map, option_and_then, bytes_eq}
use Rattle.std.specs.List.{filter_map, fold}
use Rattle.std.specs.Option.{option_or}
use Rattle.pl_value.specs.Secrets.{marked}
use Rattle.pl_state.specs.Component.{no_fields}
use Rattle.pl_state.specs.Kinds.{is_component, is_provider_goal}
use Rattle.pl_state.specs.declared.entry.Entry.{Entry}
use Rattle.pl_state.specs.declared.goal.Goal.{Goal}
use Rattle.pl_reference.specs.declared.reference.ProviderRef.{ProviderRef}
use Rattle.pl_events.specs.declared.event.Event.{Event}
use Rattle.pl_events.specs.declared.event.Request.{Request}
use Rattle.pl_events.specs.declared.event.Request.TheVariants.{Outputs}
use Rattle.pl_events.specs.declared.event.What.{What}
use Rattle.pl_events.specs.declared.event.What.TheVariants.{Kept}
use Rattle.pl_events.specs.declared.reply.Reply.{Reply}
use Rattle.pl_events.specs.declared.reply.Reply.TheVariants as reply
use Rattle.pl_decide.specs.declared.decision.Decision.{Decision}
use Rattle.pl_decide.specs.declared.decision.Decision.TheVariants as decision
use Rattle.pl_model.specs.Run.{Pairs}
use Rattle.pl_model.specs.declared.decided.Decided.{Decided}
use Rattle.pl_model.specs.declared.errand.Closed.{Closed}
use Rattle.pl_model.specs.Tickets.{closed_by}
use Rattle.pl_lemmas.specs.Words.{first_some, has_number, only_if}
use Rattle.pl_model.specs.Recording.{recorded_by_reply, recorded_of}
use Rattle.pl_model.specs.Claims.{claimed_row, id_of_row, kept_provider_id}
use Rattle.pl_model.specs.Known.{Known, claim_row, decided_goal, goal_at, provider_id}
use Rattle.pl_refresh.specs.Planned.{planned_outputs}
use Rattle.pl_model.specs.Rows.{is_marked, is_to_be_made, left_rows, row_at}

-- what a recording adds to the goal: an id, outputs, the errors of a thing that was made in part, and what is
-- kept unread
pub record Result : Type 0 where
  pub id : Option (List ℕ)
  pub outputs : Pairs
  pub reasons : List (List ℕ)
  pub rest : List ℕ

abbrev pub result_with : Option (List ℕ) → Pairs → List (List ℕ) → Result
result_with id outputs reasons = record { id = id; outputs = outputs; reasons = reasons; rest = no_fields }

abbrev pub outputs_of_row : Option Entry → Pairs
outputs_of_row None = []
outputs_of_row (Some row) = row.outputs

-- ---- by a reply

-- what a reply gives to the entry of a goal, over its claim
abbrev pub result_of_reply : Option Entry → Reply → Option Result
result_of_reply claim (reply.Made id outputs) = Some (result_with (Some id) outputs [])
result_of_reply claim (reply.MadePartly id outputs reasons) = Some (result_with (Some id) outputs reasons)
result_of_reply claim (reply.Changed outputs) = Some (result_with (id_of_row claim) outputs [])
result_of_reply claim (reply.ChangedPartly outputs reasons) = Some (result_with (id_of_row claim) outputs reasons)
result_of_reply claim (reply.Found id inputs outputs) = Some (result_with (Some id) outputs [])
result_of_reply claim _ = None

-- ---- without a reply

abbrev pub kept_id : Goal → Option Entry → Option ℕ → Option (List ℕ)
kept_id goal claim fresh = if is_provider_goal goal then kept_provider_id claim fresh else id_of_row claim

-- all that a keep leaves as the claim has it
abbrev pub kept_over : Goal → Option ℕ → Entry → Result
kept_over goal fresh claim = record {
  id = kept_id goal (Some claim) fresh;
  outputs = claim.outputs;
  reasons = claim.init_errors;
  rest = claim.rest;
}

abbrev pub kept_same : Goal → Option Entry → Option ℕ → Result
kept_same goal None fresh = result_with None [] []
kept_same goal (Some claim) fresh = kept_over goal fresh claim

-- a component or a provider that is made or changed; a provider keeps its claim's id also where the claim is external
abbrev pub new_id : Goal → Option Entry → Option ℕ → Option (List ℕ)
new_id goal claim fresh = if is_provider_goal goal then kept_provider_id claim fresh else None

abbrev pub kept_new : Goal → Option Entry → Option ℕ → Result
kept_new goal claim fresh = result_with (new_id goal claim fresh) [] []

abbrev pub kept_changed : Goal → Option Entry → Option ℕ → Result
kept_changed goal claim fresh = result_with (kept_id goal claim fresh) (outputs_of_row claim) []

abbrev pub planned_by : Goal → Option Entry → Pairs → Decision → Result
planned_by goal claim checked decision.Update =
    result_with (id_of_row claim) (planned_outputs (outputs_of_row claim) checked) []
planned_by goal claim checked decision.Import = result_with goal.import_id checked []
planned_by goal claim checked decision.ReadOnly = result_with goal.read_id checked []
planned_by goal claim checked _ = result_with None checked []

-- in a preview, what another goal's entry is planned to be
abbrev pub kept_planned : Goal → Option Entry → Decided → Result
kept_planned goal claim one = planned_by goal claim one.checked one.decision

abbrev pub is_keep : Decision → Bool
is_keep decision.Keep = true
is_keep _ = false

abbrev pub is_update : Decision → Bool
is_update decision.Update = true
is_update _ = false

-- what a keep gives to the entry of a goal
abbrev pub result_of_keep : Goal → Option Entry → Decided → Option ℕ → Result
result_of_keep goal claim one fresh =
    if is_keep one.decision then kept_same goal claim fresh
    else (if not (is_component goal || is_provider_goal goal) then kept_planned goal claim one
    else (if is_update one.decision then kept_changed goal claim fresh else kept_new goal claim fresh))

-- ---- entries

abbrev pub is_read_only : Decision → Bool
is_read_only decision.ReadOnly = true
is_read_only _ = false

-- the reference to a provider, by its number: its URN and its id, once it has an id
abbrev pub reference_to : Known → ℕ → Option ProviderRef
reference_to known provider =
    option_and_then (λ goal. option_map (λ id. record { urn = goal.urn; id = id }) (provider_id known provider))
    (goal_at known provider)

-- the entry of a goal: its URN, options and references, the checked inputs, and what the recording gave, with
-- the named outputs kept as secrets
abbrev pub goal_entry : Known → Goal → Decided → Result → Entry
goal_entry known goal one result = record {
  urn = goal.urn;
  custom = goal.custom;
  kind = goal.kind;
  id = result.id;
  inputs = one.checked;
  outputs = marked goal.additional_secret_outputs result.outputs;
  parent = goal.parent;
  provider = option_and_then (reference_to known) goal.provider;
  dependencies = goal.dependencies;
  property_dependencies = goal.property_dependencies;
  doomed = false;
  protect = goal.protect;
  external = is_read_only one.decision;
  init_errors = result.reasons;
  additional_secret_outputs = goal.additional_secret_outputs;
  aliases = goal.aliases;
  import_id = goal.import_id;
  retain_on_delete = goal.retain_on_delete;
  deleted_with = goal.deleted_with;
  pending_replacement = false;
  rest = result.rest;
}

-- what the event that records a goal gives to its entry
abbrev pub result_kept : Known → ℕ → Goal → Decided → What → Option Result
result_kept known number goal one (Kept kept fresh) =
    only_if (kept == number) (Some (result_of_keep goal (claimed_row known.run one.claim) one fresh))
result_kept known number goal one _ = None

abbrev pub numbers_in : Option ℕ → List ℕ
numbers_in None = []
numbers_in (Some number) = number ∷ []

abbrev pub result_answered : Known → ℕ → Decided → Closed → Option Result
result_answered known number one closed =
    only_if (has_number (numbers_in (recorded_by_reply closed)) number)
    (result_of_reply (claimed_row known.run one.claim) closed.reply)

-- what an event gives to the entry of a goal that it records, by the history before it
abbrev pub result_by : Known → ℕ → Goal → Decided → List Event → What → Option Result
result_by known number goal one past what =
    option_or (result_kept known number goal one what)
    (option_and_then (result_answered known number one) (closed_by past what))

-- what the first of the events that records a goal gave to its entry
abbrev pub result_from : Known → ℕ → Goal → Decided → List Event → Option Result
result_from known number goal one [] = None
result_from known number goal one (event ∷ past) =
    option_or (result_from known number goal one past) (result_by known number goal one past event.what)

-- what recorded a goal gave to its entry: the keep, or the reply to its operation
abbrev pub recording_of : Known → ℕ → Goal → Decided → Option Result
recording_of known number goal one = result_from known number goal one known.history

-- the entry of a recorded goal, without outputs that were told
abbrev pub entry_of : Known → ℕ → Option Entry
entry_of known number =
    option_and_then (λ goal. option_and_then (λ one.
    option_map (goal_entry known goal one) (recording_of known number goal one))
    (decided_goal known number)) (goal_at known number)

-- the outputs that a request tells of a goal, if it is accepted
abbrev pub told_by : ℕ → Request → Option ℕ → Option Pairs
told_by number (Outputs n urn outputs) (Some about) = only_if (about == number) (Some outputs)
told_by number _ _ = None

-- the last outputs that were told of a goal
abbrev pub told_outputs : Known → ℕ → Option Pairs
told_outputs known number = first_some (λ asked. told_by number asked.request asked.about) known.asked

abbrev pub with_outputs : Option Pairs → Entry → Entry
with_outputs None entry = entry
with_outputs (Some outputs) entry =
    record entry { outputs = marked entry.additional_secret_outputs outputs }

-- the entry of a recorded goal, with the outputs that were told of it
abbrev pub recorded_entry : Known → ℕ → Option Entry
recorded_entry known number = option_map (with_outputs (told_outputs known number)) (entry_of known number)

-- the recorded entries, in order of recording
abbrev pub new_entries : Known → List Entry
new_entries known = filter_map (recorded_entry known) (reverse (recorded_of known.history))

-- ---- old entries

-- a URN that became another one
pub record Turning : Type 0 where
  pub old : List ℕ
  pub new : List ℕ

-- the URN that a recorded goal turned into its own: that of its claim, where it claimed by an alias
abbrev pub turning_of : Known → ℕ → Option Turning
turning_of known number =
    option_and_then (λ goal. option_and_then (λ row.
    if bytes_eq row.urn goal.urn then None else Some (record { old = row.urn; new = goal.urn }))
    (claim_row known number)) (goal_at known number)

abbrev pub turnings : Known → List Turning
turnings known = filter_map (turning_of known) (reverse (recorded_of known.history))

abbrev pub turned : Turning → List ℕ → List ℕ
turned turning urn = if bytes_eq urn turning.old then turning.new else urn

abbrev pub turned_reference : Turning → ProviderRef → ProviderRef
turned_reference turning reference = record reference { urn = turned turning reference.urn }

-- an entry with a URN turned, its own and those of its references
abbrev pub turned_entry : Entry → Turning → Entry
turned_entry entry turning = record entry {
  urn = turned turning entry.urn;
  parent = option_map (turned turning) entry.parent;
  provider = option_map (turned_reference turning) entry.provider;
  dependencies = map (turned turning) entry.dependencies;
  property_dependencies = map (λ pair. (pair.0, map (turned turning) pair.1)) entry.property_dependencies;
  deleted_with = option_map (turned turning) entry.deleted_with;
}

-- a row as it stands now: turned by every alias, and marked where it was replaced or is to be made anew
abbrev pub row_now : Known → ℕ → Entry → Entry
row_now known row entry = record (fold turned_entry entry (turnings known)) {
  doomed = is_marked known row;
  pending_replacement = is_to_be_made known row;
}

abbrev pub old_row : Known → ℕ → Option Entry
old_row known row = option_map (row_now known row) (row_at known row)

-- the rows that are left, in their order
abbrev pub old_entries : Known → List Entry
old_entries known = filter_map (old_row known) (left_rows known)
