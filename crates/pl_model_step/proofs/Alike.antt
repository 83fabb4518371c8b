-- What is read of a history for fates, problems and pending operations: where two histories give the same recorded
-- goals, fresh numbers, removed rows, begun operations and host's end, they give the same of all these.
use Rattle.std.proofs.Common.{◌≡◌, ℕ, ◌==◌, not, ◌&&◌, ◌||◌, if◌then◌else◌, nat_lt, List, [], ◌++◌, length, filter, find, reverse, Option, Some, None, is_none, Ok, Err, refl, option_map, option_and_then, bytes_eq}
use Rattle.std.specs.List.{filter_map, fold, list_all, list_any, range_with_len}
use Rattle.std.specs.Option.{option_or}
use Rattle.pl_urn.specs.Grammar.{package_of}
use Rattle.pl_reference.specs.Reference.{is_reference, reference_in}
use Rattle.pl_options.specs.GoalOf.{GoalResult, given, goal_of}
use Rattle.pl_lemmas.specs.Words.{first_in, first_some, has_number, is_row, only_if, option_list, some_passes}
use Rattle.pl_state.specs.Chain.{deleter_row_of, goes_along, refers_to}
use Rattle.pl_state.specs.References.{further_urns}
use Rattle.pl_state.specs.declared.fault.OptionFault.TheVariants.{BadUrn, BadReference}
use Rattle.pl_state.specs.declared.goal.Goal.{Goal}
use Rattle.pl_state.specs.declared.goal.Registration.{Registration}
use Rattle.pl_state.specs.declared.pending.PendingKind.TheVariants.{Creating, Updating, Deleting}
use Rattle.pl_events.specs.Closing.{has_host_end}
use Rattle.pl_events.specs.declared.event.Event.{Event}
use Rattle.pl_events.specs.declared.event.Request.{Request}
use Rattle.pl_events.specs.declared.event.Request.TheVariants.{Register, Outputs, Invoke}
use Rattle.pl_events.specs.declared.event.What.{What}
use Rattle.pl_events.specs.declared.event.What.TheVariants.{Told, Begun, Answered, Lost}
use Rattle.pl_events.specs.declared.operation.Op.{Op}
use Rattle.pl_events.specs.declared.operation.Op.TheVariants as op
use Rattle.pl_decide.specs.Permits.{is_wanted, permits_left}
use Rattle.pl_decide.specs.declared.problem.Problem.TheVariants as problem
use Rattle.pl_model.specs.Run.{has_host, is_destroy, is_refresh, rows_of}
use Rattle.pl_model.specs.Tickets.{begun_of, closed_by}
use Rattle.pl_model.specs.Recording.{fresh_of, goal_in, recorded_by, recorded_by_reply, recorded_of, removed_by, removed_by_reply, removed_of, row_in, dropped_by, kept_by}
use Rattle.pl_model.specs.declared.decided.Decided.{Decided}
use Rattle.pl_decide.specs.Limited.{is_delete_first}
use Rattle.pl_model.specs.Claims.{chain_of_goal, claimed_row, claimer_of, id_of_row, is_claimed, kept_provider_id, goal_number}
use Rattle.pl_model.specs.Entries.{goal_entry, old_row, outputs_of_row, reference_to, result_by, result_with, turned_entry, turning_of, turnings, result_answered, result_kept}
use Rattle.pl_model.specs.declared.heard.Fate.TheVariants.{Halted as halted}
use Rattle.pl_model.specs.Known.{Known, claim_row, decided_goal, goal_at, has_problem, host_ended, is_over, is_recorded, provider_id}
use Rattle.pl_model.specs.Problems.{decision_problems, end_problems, ends_well, first_row, has_deleted, holds_doomed, is_claimed_beside, is_unpermitted, lacking_in, lacks_provider, limit_problem, made_problems, missing_provider, newly_decided, own_problem, problem_of_closed, problem_of_fate, problem_of_loss, problems_at, request_problem, turned_urn}
use Rattle.pl_model.specs.Requests.{fate_by, fate_of, has_goal, has_id, invoke_refusal, invoked_version, is_bad_default, is_met, is_met_reference, refusal_of, refused_if, result_refusal, unknown_references, uses_default}
use Rattle.pl_model.specs.Rows.{goes_now, goes_with, is_deletable, is_deleted_first, is_doomed, is_left, is_marked, is_replaced, is_sent, is_taken_out, is_taken_over, is_target, recorded_claimer, row_at, row_numbers, stands_beside, takes_along, was_removed}
use Rattle.pl_model.specs.State.{creating_entry, opened_by, pending_for, pending_with, updating_entry}

-- two histories that tell the same of these
pub record Alike (a b : List Event) : Type 0 where
  pub recorded : recorded_of a ≡ recorded_of b
  pub fresh : (goal : ℕ) → fresh_of a goal ≡ fresh_of b goal
  pub removed : removed_of a ≡ removed_of b
  pub begun : begun_of a ≡ begun_of b
  pub host : has_host_end a ≡ has_host_end b

-- what another history tells, the rest being the same
abbrev pub over : Known → List Event → Known
over known history = record known { history = history }

-- what an event answers
pub closed_alike : (a b : List Event) → Alike a b → (what : What) → closed_by a what ≡ closed_by b what
closed_alike a b alike (Answered ticket reply) =
    λ i. option_map (λ about. record { op = about; reply = reply })
    (option_map (λ errand. errand.op) (find (λ errand. errand.ticket == ticket) (alike.begun i)))
closed_alike a b alike _ = refl

module _ (known : Known) (history : List Event) (alike : Alike known.history history) where
  -- ---- requests

  pub recorded : is_recorded known ≡ is_recorded (over known history)
  recorded = λ i goal. has_number (alike.recorded i) goal

  ids : provider_id known ≡ provider_id (over known history)
  ids = λ i goal. kept_provider_id (claim_row known goal) (alike.fresh goal i)

  has_ids : has_id known ≡ has_id (over known history)
  has_ids = λ i id goal. recorded i goal && some_passes (λ own. bytes_eq own id) (ids i goal)

  mets : is_met known ≡ is_met (over known history)
  mets = λ i reference. some_passes (has_ids i reference.1) (goal_number known.goals reference.0)

  met_references : is_met_reference known ≡ is_met_reference (over known history)
  met_references = λ i text. some_passes (mets i) (reference_in text)

  unknowns : unknown_references known ≡ unknown_references (over known history)
  unknowns = λ i told goal.
      filter (λ urn. not (has_goal known urn)) (option_list goal.parent)
      ++ (filter (λ text. not (met_references i text)) (option_list (given told.provider))
      ++ filter (λ urn. not (has_goal known urn)) (further_urns goal))

  result_refusals : (told : Registration) (result : GoalResult)
      → result_refusal known told result ≡ result_refusal (over known history) told result
  result_refusals told (Err fault) = refl
  result_refusals told (Ok goal) =
      λ i. option_or (refused_if (uses_default told goal && is_bad_default (package_of goal.urn) goal.version) (problem.BadOption (BadUrn goal.kind)))
      (option_or (option_map problem.UnknownReference (first_in (unknowns i told goal)))
      (refused_if (has_goal known goal.urn) (problem.DuplicateUrn goal.urn)))

  invoke_refusals : (token : List ℕ) (provider version : Option (List ℕ))
      → invoke_refusal known token provider version ≡ invoke_refusal (over known history) token provider version
  invoke_refusals token None version = refl
  invoke_refusals token (Some text) version =
      λ i. option_or (refused_if (not (is_reference text)) (problem.BadOption (BadReference text)))
      (refused_if (not (met_references i text)) (problem.UnknownReference text))

  refusals : (request : Request) → refusal_of known request ≡ refusal_of (over known history) request
  refusals (Register n told) = result_refusals told (goal_of known.run.stack known.run.project told)
  refusals (Outputs n urn outputs) = refl
  refusals (Invoke n token args provider version) = invoke_refusals token (given provider) (invoked_version version)

  pub same_fate : (request : Request) → fate_of known request ≡ fate_of (over known history) request
  same_fate request = λ i. if has_problem known then halted else fate_by (refusals request i)

  -- ---- rows

  pub claimers : recorded_claimer known ≡ recorded_claimer (over known history)
  claimers = λ i row. option_and_then (λ goal. only_if (recorded i goal) (Some goal)) (claimer_of known.decided row)

  taken_over : is_taken_over known ≡ is_taken_over (over known history)
  taken_over = λ i row. some_passes (λ goal. not (stands_beside known goal)) (claimers i row)

  replaced : is_replaced known ≡ is_replaced (over known history)
  replaced = λ i row. some_passes (stands_beside known) (claimers i row)

  pub removed : was_removed known ≡ was_removed (over known history)
  removed = λ i row. has_number (alike.removed i) row

  taken_out : is_taken_out known ≡ is_taken_out (over known history)
  taken_out = λ i row. removed i row && not (is_deleted_first known row)

  pub left : is_left known ≡ is_left (over known history)
  left = λ i row. nat_lt row (length (rows_of known.run)) && not (taken_out i row) && not (taken_over i row)

  pub marked : is_marked known ≡ is_marked (over known history)
  marked = λ i row. some_passes (λ entry. entry.doomed) (row_at known row) || replaced i row

  going_now : goes_now known ≡ goes_now (over known history)
  going_now = λ i row.
      some_passes (λ entry. goes_along (is_claimed known.decided) (row, record entry { doomed = marked i row })) (row_at known row)

  along : takes_along known ≡ takes_along (over known history)
  along = λ i row one.
      is_delete_first one.decision
      && (is_row one.claim row || (has_number (chain_of_goal known.run one) row && going_now i row))

  pub ended : host_ended known ≡ host_ended (over known history)
  ended = λ i. not (has_host known.run.mode) || alike.host i

  pub same_over : is_over known ≡ is_over (over known history)
  same_over = λ i. ended i && list_all (recorded i) (range_with_len 0 (length known.goals))

  pub doomed : is_doomed known ≡ is_doomed (over known history)
  doomed = λ i row.
      left i row && not (is_refresh known.run.mode) && is_target known row
      && (same_over i || list_any (along i row) known.decided)

  going : goes_with known ≡ goes_with (over known history)
  going = λ i row.
      some_passes (λ other. doomed i other && some_passes is_deletable (row_at known other)) (deleter_row_of (rows_of known.run) row)

  pub sent : is_sent known ≡ is_sent (over known history)
  sent = λ i row.
      some_passes (λ entry. is_deletable entry && not entry.pending_replacement) (row_at known row) && not (going i row)

  -- ---- problems

  lacking : lacks_provider known ≡ lacks_provider (over known history)
  lacking = λ i row. sent i row && some_passes (λ entry. is_none entry.provider) (row_at known row)

  deleted : has_deleted known ≡ has_deleted (over known history)
  deleted = λ i one row.
      along i row one || (has_number (chain_of_goal known.run one) row && is_claimed_beside known row)

  lackings : lacking_in known ≡ lacking_in (over known history)
  lackings = λ i one row.
      if deleted i one row && lacking i row then option_map (λ entry. entry.urn) (row_at known row) else None

  missing : missing_provider known ≡ missing_provider (over known history)
  missing = λ i one. option_map problem.MissingProvider (first_some (lackings i one) (row_numbers known))

  unpermitted : is_unpermitted known ≡ is_unpermitted (over known history)
  unpermitted = λ i row entry. left i row && not (permits_left known.run.limits (turned_urn known entry.urn) entry.urn)

  holding : holds_doomed known ≡ holds_doomed (over known history)
  holding = λ i row entry.
      not (is_wanted known.run.limits entry.urn)
      && list_any (λ earlier. refers_to (rows_of known.run) row earlier && doomed i earlier) (row_numbers known)

  limited : limit_problem known ≡ limit_problem (over known history)
  limited = λ i.
      if is_destroy known.run.mode then first_row known problem.NotPermitted (holding i)
      else (if is_refresh known.run.mode then None else first_row known problem.NotPermitted (unpermitted i))

  ending : end_problems known ≡ end_problems (over known history)
  ending = λ i.
      option_list (first_row known problem.Protected (λ row entry. doomed i row && entry.protect))
      ++ (option_list (first_row known problem.MissingProvider (λ row entry. doomed i row && lacking i row))
      ++ option_list (limited i))

  pub own : (what : What) → own_problem known what ≡ own_problem (over known history) what
  own (Answered ticket reply) =
      λ i. option_and_then (problem_of_closed known) (closed_alike known.history history alike (Answered ticket reply) i)
  own (Lost ticket why) =
      λ i. option_map (λ errand. problem_of_loss errand.lane why) (find (λ errand. errand.ticket == ticket) (alike.begun i))
  own _ = refl

  pub asking : (what : What) → request_problem known what ≡ request_problem (over known history) what
  asking (Told request) = λ i. problem_of_fate (same_fate request i)
  asking _ = refl

  -- ---- pending operations

  references : reference_to known ≡ reference_to (over known history)
  references = λ i provider.
      option_and_then (λ goal. option_map (λ id. record { urn = goal.urn; id = id }) (ids i provider)) (goal_at known provider)

  pub entries : goal_entry known ≡ goal_entry (over known history)
  entries = λ i goal one result.
      record (goal_entry known goal one result) { provider = option_and_then (references i) goal.provider }

  creating : creating_entry known ≡ creating_entry (over known history)
  creating = λ i number.
      option_and_then (λ goal. option_map (λ one. entries i goal one (result_with None [] [])) (decided_goal known number)) (goal_at known number)

  updating : updating_entry known ≡ updating_entry (over known history)
  updating = λ i number.
      option_and_then (λ goal. option_map (λ one.
      record (entries i goal one (result_with (id_of_row (claimed_row known.run one.claim)) [] []))
      { outputs = outputs_of_row (claimed_row known.run one.claim) })
      (decided_goal known number)) (goal_at known number)

  pub turning : turnings known ≡ turnings (over known history)
  turning = λ i. filter_map (turning_of known) (reverse (alike.recorded i))

  pub old : old_row known ≡ old_row (over known history)
  old = λ i row. option_map (λ entry. record (fold turned_entry entry (turning i)) {
    doomed = marked i row;
    pending_replacement =
        some_passes (λ one. one.pending_replacement) (row_at known row) || (removed i row && is_deleted_first known row);
  }) (row_at known row)

  pub opening : (about : Op) → pending_for known about ≡ pending_for (over known history) about
  opening (op.Create about) = λ i. pending_with Creating (option_and_then (creating i) (goal_in about))
  opening (op.Update about) = λ i. pending_with Updating (option_and_then (updating i) (goal_in about))
  opening (op.Delete about) = λ i. pending_with Deleting (option_and_then (old i) (row_in about))
  opening _ = refl

  pub same_opened : (what : What) → opened_by known what ≡ opened_by (over known history) what
  same_opened (Begun ticket lane about) =
      λ i. option_map (λ pending. record { ticket = ticket; pending = pending }) (opening about i)
  same_opened _ = refl

-- ---- two of them, before an event and after it

module _ (before after : Known) (earlier later : List Event) (first : Alike before.history earlier) (second : Alike after.history later) (what : What) where
  made : made_problems before after what ≡ made_problems (over before earlier) (over after later) what
  made = λ i.
      option_list (asking before earlier first what i)
      ++ (decision_problems before after ++ (option_list (own before earlier first what i)
      ++ filter_map (missing after later second i) (newly_decided before after)))

  well : ends_well before after what ≡ ends_well (over before earlier) (over after later) what
  well = λ i.
      same_over after later second i && not (same_over before earlier first i) && not (has_problem before)
      && is_none (first_in (made i))

  pub same_problems : problems_at before after what ≡ problems_at (over before earlier) (over after later) what
  same_problems = λ i. made i ++ (if well i then ending after later second i else [])

-- ---- what an event records, removes and gives

pub recorded_alike : (a b : List Event) → Alike a b → (what : What) → recorded_by a what ≡ recorded_by b what
recorded_alike a b alike what =
    λ i. option_or (kept_by what) (option_and_then recorded_by_reply (closed_alike a b alike what i))

pub removed_alike : (a b : List Event) → Alike a b → (what : What) → removed_by a what ≡ removed_by b what
removed_alike a b alike what =
    λ i. option_or (dropped_by what) (option_and_then removed_by_reply (closed_alike a b alike what i))

pub result_alike : (known : Known) (number : ℕ) (goal : Goal) (one : Decided) (a b : List Event) → Alike a b → (what : What)
    → result_by known number goal one a what ≡ result_by known number goal one b what
result_alike known number goal one a b alike what =
    λ i. option_or (result_kept known number goal one what)
    (option_and_then (result_answered known number one) (closed_alike a b alike what i))
