-- The work that is due, the order in which it is chosen, and what is over the limit.
use Rattle.std.specs.Prelude.{◌≡◌, ℕ, ◌+◌, ◌==◌, Bool, true, false, not, ◌&&◌, ◌||◌, if◌then◌else◌, nat_lt, Option, None, Some, is_some, is_none, List, [], ◌∷◌, ◌++◌, length, filter, find, map, reverse, option_map, option_and_then, slice_get, bytes_eq}
use Rattle.std.specs.List.{list_any, list_all, range_with_len, flat_map}
use Rattle.pl_value.specs.Inside.{any_field_unknown}
use Rattle.pl_lemmas.specs.Words.{has_number, is_row, none_or, some_passes}
use Rattle.pl_state.specs.Kinds.{is_provided, is_provider_goal}
use Rattle.pl_state.specs.References.{further_urns}
use Rattle.pl_state.specs.declared.entry.Entry.{Entry}
use Rattle.pl_state.specs.declared.goal.Goal.{Goal}
use Rattle.pl_state.specs.declared.pending.Pending.{Pending}
use Rattle.pl_state.specs.declared.pending.PendingKind.{PendingKind}
use Rattle.pl_state.specs.declared.pending.PendingKind.TheVariants.{Updating, Deleting}
use Rattle.pl_events.specs.declared.event.Request.{Request}
use Rattle.pl_events.specs.declared.event.Request.TheVariants.{Register, Outputs, Invoke}
use Rattle.pl_events.specs.declared.operation.Op.{Op}
use Rattle.pl_events.specs.declared.operation.Op.TheVariants as op
use Rattle.pl_events.specs.declared.operation.Source.{Source}
use Rattle.pl_events.specs.declared.operation.Source.TheVariants as source
use Rattle.pl_events.specs.declared.operation.Subject.{Subject}
use Rattle.pl_events.specs.declared.operation.Subject.TheVariants as subject
use Rattle.pl_events.specs.declared.reply.Reply.{Reply}
use Rattle.pl_events.specs.declared.reply.Reply.TheVariants as reply
use Rattle.pl_decide.specs.declared.decision.Decision.{Decision}
use Rattle.pl_decide.specs.declared.decision.Decision.TheVariants as decision
use Rattle.pl_model.specs.declared.work.Work.{Work}
use Rattle.pl_model.specs.declared.work.Work.TheVariants.{Clear as to_clear, Drop as to_drop, Keep as to_keep, Post as to_post, Send as to_send}
use Rattle.pl_model.specs.Run.{Pairs, clears_creates, imports_of, is_preview, is_refresh}
use Rattle.pl_state.specs.Formed.{most_resources}
use Rattle.pl_model.specs.Tickets.{is_coming, is_free, is_lost, is_out, is_source, lane_count, lane_free, lane_source, lanes_from, open_errands, reply_to, same_op, was_begun, was_configured}
use Rattle.pl_model.specs.Recording.{posted_of}
use Rattle.pl_decide.specs.Limited.{is_create_first, is_delete_first, is_refused}
use Rattle.pl_model.specs.declared.decided.Decided.{Decided}
use Rattle.pl_model.specs.declared.heard.Fate.{Fate}
use Rattle.pl_model.specs.declared.heard.Fate.TheVariants.{Accepted as accepted, Halted as halted, Refused as refused}
use Rattle.pl_model.specs.declared.heard.Heard.{Heard}
use Rattle.pl_model.specs.Claims.{chain_of_goal, goal_number}
use Rattle.pl_model.specs.Decisions.{Turn, checked_at, checked_in, has_unknown_inputs, is_provider_unknown, needs_check, number_at, same_text, wants_diff}
use Rattle.pl_model.specs.Known.{Known, asked_at, decided_goal, goal_at, has_problem, is_recorded, next_turn, number_of}
use Rattle.pl_model.specs.Entries.{old_row}
use Rattle.pl_model.specs.Problems.{is_creating, is_to_read, pending_create}
use Rattle.pl_model.specs.Rows.{has_dependents, is_doomed, is_left, is_marked, is_sent, was_removed, pending_at, row_at, row_numbers, source_of_goal, source_of_pending, source_of_row}
use Rattle.pl_model.specs.State.{entries_now, is_cleared, pending_of}

abbrev pub goal_numbers : Known → List ℕ
goal_numbers known = range_with_len 0 (length known.goals)

-- ---- goals

abbrev pub is_recorded_urn : Known → List ℕ → Bool
is_recorded_urn known urn = some_passes (is_recorded known) (goal_number known.goals urn)

-- whether the goals of a goal's references are recorded
abbrev pub references_recorded : Known → Goal → Bool
references_recorded known goal =
    none_or (is_recorded_urn known) goal.parent && none_or (is_recorded known) goal.provider
    && list_all (is_recorded_urn known) (further_urns goal)

-- whether a row that is left, is not to be deleted and is not the goal's claim has the goal's URN
abbrev pub holds_urn : Known → Goal → Decided → ℕ → Bool
holds_urn known goal one row =
    is_left known row && not (is_marked known row) && not (is_row one.claim row)
    && some_passes (λ entry. bytes_eq entry.urn goal.urn) (old_row known row)

abbrev pub urn_is_free : Known → Goal → Decided → Bool
urn_is_free known goal one = not (list_any (holds_urn known goal one) (row_numbers known))

-- whether a goal can be recorded: it is decided and is not recorded, its references are, and no old row has its
-- URN, for which a preview does not wait
abbrev pub is_placed : Known → ℕ → Goal → Decided → Bool
is_placed known number goal one =
    not (is_refused one.decision) && not (is_recorded known number) && references_recorded known goal
    && (is_preview known.run.mode || urn_is_free known goal one)

-- in a preview, whether the goal's provider has inputs that are not known
abbrev pub has_unknown_provider : Known → Goal → Bool
has_unknown_provider known goal =
    is_preview known.run.mode && has_unknown_inputs known.decided goal.provider

-- the operation by which a decision is carried out, if it takes one
abbrev pub op_of_decision : ℕ → Decision → Option Op
op_of_decision number decision.Keep = None
op_of_decision number decision.Create = Some (op.Create (subject.Goal number))
op_of_decision number decision.Update = Some (op.Update (subject.Goal number))
op_of_decision number (decision.Replace first) = Some (op.Create (subject.Goal number))
op_of_decision number decision.Import = Some (op.Read (subject.Goal number))
op_of_decision number decision.ReadOnly = Some (op.Read (subject.Goal number))
op_of_decision number (decision.Refused problem) = None

abbrev pub is_reading : Decision → Bool
is_reading decision.Import = true
is_reading decision.ReadOnly = true
is_reading _ = false

-- whether a decision is sent to a provider: one on a goal that is provided for; in a preview only to read,
-- where the provider is known
abbrev pub is_carried_out : Known → Goal → Decision → Bool
is_carried_out known goal choice =
    is_provided goal
    && (not (is_preview known.run.mode) || (is_reading choice && not (has_unknown_provider known goal)))

-- the operation that a goal needs, if it needs one
abbrev pub op_of_goal : Known → ℕ → Goal → Decided → Option Op
op_of_goal known number goal one =
    if is_carried_out known goal one.decision then op_of_decision number one.decision else None

-- a provider is kept once its first lane is configured, for which a preview does not wait
abbrev pub provider_stands : Known → ℕ → Goal → Bool
provider_stands known number goal =
    not (is_provider_goal goal) || is_preview known.run.mode || was_configured known.history (source.Goal number)

abbrev pub keeps_goal : Known → ℕ → Goal → Decided → Bool
keeps_goal known number goal one =
    is_placed known number goal one && is_none (op_of_goal known number goal one) && provider_stands known number goal

-- whether what a goal that is deleted first takes along is gone: its claim was deleted or dropped, and no row of its
-- chain is left
abbrev pub way_is_free : Known → Decided → Bool
way_is_free known one =
    not (is_delete_first one.decision)
    || (none_or (was_removed known) one.claim
    && list_all (λ row. not (is_left known row)) (chain_of_goal known.run one))

abbrev pub sends_goal : Known → ℕ → Op → Goal → Decided → Bool
sends_goal known number about goal one =
    is_placed known number goal one && some_passes (same_op about) (op_of_goal known number goal one)
    && way_is_free known one

abbrev pub for_decided : Known → ℕ → (Goal → Decided → Bool) → Bool
for_decided known number test =
    some_passes (λ goal. some_passes (test goal) (decided_goal known number)) (goal_at known number)

abbrev pub is_keep_ready : Known → ℕ → Bool
is_keep_ready known number = for_decided known number (keeps_goal known number)

-- ---- rows and pending operations

-- whether a row can be deleted or dropped: it is doomed, that was not done yet, and no later row that refers to it
-- is left; a preview takes none
abbrev pub is_removable : Known → ℕ → Bool
is_removable known row =
    is_doomed known row && not (was_removed known row) && not (has_dependents known row)
    && not (is_preview known.run.mode)

abbrev pub is_drop_ready : Known → ℕ → Bool
is_drop_ready known row = is_removable known row && not (is_sent known row)

abbrev pub is_delete_ready : Known → ℕ → Bool
is_delete_ready known row = is_removable known row && is_sent known row

abbrev pub was_read : Known → ℕ → Bool
was_read known row = is_some (reply_to known.answers (op.Read (subject.Row row)))

-- whether a row with the URN and the id of a pending operation is still to be read
abbrev pub is_awaited : Known → Entry → ℕ → Bool
is_awaited known entry row =
    some_passes (λ other. is_to_read other && bytes_eq other.urn entry.urn && same_text other.id entry.id) (row_at known row)
    && not (was_read known row)

-- whether a pending operation is one that an import closes
abbrev pub is_imported : Known → ℕ → Bool
is_imported known at =
    list_any (λ pair. is_row (pending_create known.run pair.1) at) (imports_of known.run.mode)

-- whether a pending operation can be let go: a creation where the command says so and no import is to close it,
-- another one once each row that tells of it was read
abbrev pub is_settled : Known → ℕ → Pending → Bool
is_settled known at pending =
    if is_creating pending.kind then clears_creates known.run.mode && not (is_imported known at)
    else not (list_any (is_awaited known pending.entry) (row_numbers known))

abbrev pub is_clear_ready : Known → ℕ → Bool
is_clear_ready known at =
    is_refresh known.run.mode && not (is_cleared known at) && some_passes (is_settled known at) (pending_at known at)

-- ---- requests

-- in a preview, whether an invoke is answered without being sent: its arguments or its provider's inputs are not
-- known
abbrev pub is_unsent : Known → Request → Option ℕ → Bool
is_unsent known (Invoke n token args provider version) about =
    is_preview known.run.mode && (any_field_unknown args || has_unknown_inputs known.decided about)
is_unsent known _ about = false

abbrev pub is_result : Option Reply → Bool
is_result (Some (reply.Result fields)) = true
is_result _ = false

abbrev pub is_recorded_about : Known → Option ℕ → Bool
is_recorded_about known about = some_passes (is_recorded known) about

-- whether an accepted request has its result
abbrev pub has_result : Known → Request → Option ℕ → Bool
has_result known (Register n told) about = is_recorded_about known about
has_result known (Outputs n urn outputs) about = is_recorded_about known about
has_result known (Invoke n token args provider version) about =
    is_result (reply_to known.answers (op.Invoke n)) || is_unsent known (Invoke n token args provider version) about

-- whether a request has all that its answer needs: it is refused, or it is accepted and has its result
abbrev pub is_settled_fate : Known → Heard → Fate → Bool
is_settled_fate known asked halted = false
is_settled_fate known asked (refused problem) = true
is_settled_fate known asked accepted = has_result known asked.request asked.about

abbrev pub is_settled_request : Known → Heard → Bool
is_settled_request known asked = is_settled_fate known asked asked.fate

abbrev pub has_open : Known → Bool
has_open known = is_some (slice_get (open_errands known.history) 0)

-- whether the post of a request is due: it was not posted, and it was refused or has its result, or a problem
-- stands and no ticket is open
abbrev pub is_post_due : Known → ℕ → Bool
is_post_due known n =
    not (has_number (posted_of known.history) n)
    && some_passes (λ asked. is_settled_request known asked || (has_problem known && not (has_open known))) (asked_at known n)

-- an invoke that is to be sent: it is accepted, and its provider is recorded
abbrev pub is_invoke : Known → Request → Option ℕ → Bool
is_invoke known (Invoke n token args provider version) about =
    is_recorded_about known about && not (is_unsent known (Invoke n token args provider version) about)
is_invoke known _ about = false

-- ---- operations

abbrev pub at_turn : Known → Subject → (Turn → Bool) → Bool
at_turn known (subject.Goal number) test = some_passes (λ turn. number_at turn == number && test turn) (next_turn known)
at_turn known _ test = false

abbrev pub provider_recorded : Known → Turn → Bool
provider_recorded known turn = some_passes (is_recorded known) turn.goal.provider

abbrev pub asks_check : Known → Turn → Bool
asks_check known turn = needs_check turn && not (is_provider_goal turn.goal) && provider_recorded known turn

abbrev pub asks_diff : Known → Turn → Bool
asks_diff known turn =
    is_some (checked_at turn) && wants_diff turn && not (is_provider_unknown turn) && provider_recorded known turn

abbrev pub asks_config : Turn → Bool
asks_config turn = is_provider_goal turn.goal

abbrev pub on_goal : Known → Op → Subject → Bool
on_goal known about (subject.Goal number) = for_decided known number (sends_goal known number about)
on_goal known about _ = false

abbrev pub on_row : Known → (ℕ → Bool) → Subject → Bool
on_row known test (subject.Row row) = test row
on_row known test _ = false

-- whether something is to be read: a goal's thing, a row, or what a pending creation made
abbrev pub is_read_ready : Known → Op → Subject → Bool
is_read_ready known about (subject.Goal number) = for_decided known number (sends_goal known number about)
is_read_ready known about (subject.Row row) = is_refresh known.run.mode && some_passes is_to_read (row_at known row)
is_read_ready known about (subject.Pending at) = is_refresh known.run.mode && is_imported known at

-- whether an operation other than a lane's configuration is to be done, wherever a lane is
abbrev pub is_asked : Known → Op → Bool
is_asked known (op.CheckConfig about) = at_turn known about asks_config
is_asked known (op.Configure provider) = false
is_asked known (op.Check about) = at_turn known about (asks_check known)
is_asked known (op.Diff about) = at_turn known about (asks_diff known)
is_asked known (op.Create about) = on_goal known (op.Create about) about
is_asked known (op.Update about) = on_goal known (op.Update about) about
is_asked known (op.Delete about) = on_row known (is_delete_ready known) about
is_asked known (op.Read about) = is_read_ready known (op.Read about) about
is_asked known (op.Invoke n) = some_passes (λ asked. is_invoke known asked.request asked.about) (asked_at known n)

-- the same, and it was not begun
abbrev pub is_wanted_op : Known → Op → Bool
is_wanted_op known about = not (was_begun known.history about) && is_asked known about

-- ---- the limit

abbrev pub counts : PendingKind → Bool
counts Updating = false
counts Deleting = false
counts _ = true

abbrev pub is_counted : Pending → Bool
is_counted pending = counts pending.kind

abbrev pub reads_goal : Op → Bool
reads_goal (op.Read (subject.Goal number)) = true
reads_goal _ = false

-- the count that is limited: resources, pending operations other than updates and deletes, and the open imports
-- and reads of goals
abbrev pub count_of : Known → ℕ
count_of known =
    length (entries_now known) + length (filter is_counted (pending_of known))
    + length (filter (λ errand. reads_goal errand.op) (open_errands known.history))

-- whether a goal's claim leaves the old entries when the goal is recorded
abbrev pub claim_leaves : Known → ℕ → Bool
claim_leaves known number =
    some_passes (λ one. some_passes (is_left known) one.claim && not (is_create_first one.decision)) (decided_goal known number)

-- how much a piece of work adds to the count
abbrev pub added_by_op : Op → ℕ
added_by_op (op.Create about) = 1
added_by_op (op.Read (subject.Goal number)) = 1
added_by_op _ = 0

abbrev pub added_by : Known → Work → ℕ
added_by known (to_keep number) = if claim_leaves known number then 0 else 1
added_by known (to_send about) = added_by_op about
added_by known _ = 0

-- whether work would make the count greater than it may be
abbrev pub passes_limit : Known → Work → Bool
passes_limit known work = not (added_by known work == 0) && nat_lt most_resources (count_of known + added_by known work)

-- ---- lanes

abbrev pub source_of_subject : Known → Subject → Option Source
source_of_subject known (subject.Goal number) = source_of_goal known number
source_of_subject known (subject.Row row) = source_of_row known row
source_of_subject known (subject.Pending at) = source_of_pending known at

-- the provider whose lanes an operation is sent to
abbrev pub source_of_op : Known → Op → Option Source
source_of_op known (op.CheckConfig (subject.Goal number)) = Some (source.Goal number)
source_of_op known (op.CheckConfig _) = None
source_of_op known (op.Configure provider) = Some provider
source_of_op known (op.Check about) = source_of_subject known about
source_of_op known (op.Diff about) = source_of_subject known about
source_of_op known (op.Create about) = source_of_subject known about
source_of_op known (op.Update about) = source_of_subject known about
source_of_op known (op.Delete about) = source_of_subject known about
source_of_op known (op.Read about) = source_of_subject known about
source_of_op known (op.Invoke n) = option_map source.Goal (option_and_then (λ asked. asked.about) (asked_at known n))

-- whether a lane is a free one of the operation's source
abbrev pub is_lane_of : Known → Op → ℕ → Bool
is_lane_of known about lane =
    some_passes (λ wanted. is_source (lane_source known.history lane) wanted) (source_of_op known about)
    && is_free known.history lane

abbrev pub is_next_lane : Known → ℕ → Bool
is_next_lane known lane = lane == lane_count known.history

-- the operations that goals, rows, imports and invokes may need, in the order of choice
abbrev pub checks_of : Known → List Op
checks_of known =
    flat_map (λ number. op.Check (subject.Goal number) ∷ op.Diff (subject.Goal number) ∷ []) (goal_numbers known)

abbrev pub sends_of : Known → List Op
sends_of known =
    flat_map (λ number. op.Create (subject.Goal number) ∷ op.Update (subject.Goal number) ∷ op.Read (subject.Goal number) ∷ [])
    (goal_numbers known)

abbrev pub deletes_of : Known → List Op
deletes_of known = map (λ row. op.Delete (subject.Row row)) (reverse (row_numbers known))

abbrev pub reads_of : Known → List Op
reads_of known = map (λ row. op.Read (subject.Row row)) (reverse (row_numbers known))

abbrev pub pending_numbers : Known → List ℕ
pending_numbers known = range_with_len 0 (length known.run.base.pending)

abbrev pub imports_read : Known → List Op
imports_read known = map (λ at. op.Read (subject.Pending at)) (pending_numbers known)

-- the numbers of the told requests, in order
abbrev pub request_numbers : Known → List ℕ
request_numbers known = map (λ asked. number_of asked.request) (reverse known.asked)

abbrev pub invokes_of : Known → List Op
invokes_of known = map op.Invoke (request_numbers known)

-- all operations that are sent to a lane which is there
abbrev pub operations_of : Known → List Op
operations_of known =
    deletes_of known ++ (checks_of known ++ (sends_of known ++ (reads_of known ++ (imports_read known ++ invokes_of known))))

-- whether one more lane of a source is to be started: work of the source is to be done that is not over the limit, no
-- lane of it is free or being configured, and it has fewer than it may have
abbrev pub wants_lane : Known → Source → Bool
wants_lane known wanted =
    list_any (λ about. is_source (source_of_op known about) wanted && is_wanted_op known about
    && not (passes_limit known (to_send about))) (operations_of known)
    && is_none (lane_free known.history wanted)
    && not (list_any (is_coming known.history) (lanes_from known.history wanted))
    && nat_lt (length (lanes_from known.history wanted)) known.run.parallel

-- whether a provider's inputs were checked and it is to be configured: not in a preview where they are not known
abbrev pub may_configure : Known → Pairs → Bool
may_configure known checked = not (is_preview known.run.mode && any_field_unknown checked)

-- whether the lane is the one on which a provider's inputs were checked, and is to be configured now
abbrev pub is_checked_lane : Known → Source → ℕ → Bool
is_checked_lane known (source.Goal number) lane =
    some_passes (may_configure known) (checked_in (reply_to known.answers (op.CheckConfig (subject.Goal number))))
    && is_source (lane_source known.history lane) (source.Goal number)
    && not (was_begun known.history (op.Configure (source.Goal number)))
    && not (is_out known.history lane) && not (is_lost known.history lane)
is_checked_lane known (source.Row row) lane = false

-- whether an operation is to be sent to this lane, the limit aside
abbrev pub is_ready_on : Known → Op → ℕ → Bool
is_ready_on known (op.CheckConfig about) lane =
    not (has_problem known) && is_wanted_op known (op.CheckConfig about) && is_next_lane known lane
is_ready_on known (op.Configure provider) lane =
    not (has_problem known)
    && (is_checked_lane known provider lane || (wants_lane known provider && is_next_lane known lane))
is_ready_on known about lane =
    not (has_problem known) && is_wanted_op known about && is_lane_of known about lane

-- the lanes there are, and the next one
abbrev pub lane_numbers : Known → List ℕ
lane_numbers known = range_with_len 0 (lane_count known.history + 1)

abbrev pub is_ready_op : Known → Op → Bool
is_ready_op known about = list_any (is_ready_on known about) (lane_numbers known)

-- whether work is due, the limit aside; after a problem only posts are
abbrev pub is_ready : Known → Work → Bool
is_ready known (to_post n) = is_post_due known n
is_ready known (to_keep number) = not (has_problem known) && is_keep_ready known number
is_ready known (to_clear at) = not (has_problem known) && is_clear_ready known at
is_ready known (to_drop row) = not (has_problem known) && is_drop_ready known row
is_ready known (to_send about) = is_ready_op known about

-- ---- what is due

abbrev pub is_due : Known → Work → Bool
is_due known work = is_ready known work && not (passes_limit known work)

abbrev pub is_over_limit : Known → Work → Bool
is_over_limit known work = is_ready known work && passes_limit known work

-- whether an operation is due on this lane
abbrev pub is_due_on : Known → Op → ℕ → Bool
is_due_on known about lane = is_ready_on known about lane && not (passes_limit known (to_send about))

-- ---- the order of choice

-- the configurations: of each goal in order the check and then the lane, and the lanes of rows
abbrev pub configures_of : Known → List Op
configures_of known =
    flat_map (λ number. op.CheckConfig (subject.Goal number) ∷ op.Configure (source.Goal number) ∷ []) (goal_numbers known)
    ++ map (λ row. op.Configure (source.Row row)) (reverse (row_numbers known))

abbrev pub all_sends : Known → List Op
all_sends known =
    deletes_of known ++ (configures_of known ++ (checks_of known ++ (sends_of known
    ++ (reads_of known ++ (imports_read known ++ invokes_of known)))))

-- all work that there can be, in the order of choice: posts, keeps, clears, drops, deletes, configurations, checks
-- and diffs, what goals need, readings, invokes
abbrev pub works_of : Known → List Work
works_of known =
    map to_post (request_numbers known) ++ (map to_keep (goal_numbers known) ++ (map to_clear (pending_numbers known)
    ++ (map to_drop (reverse (row_numbers known)) ++ map to_send (all_sends known))))

-- the work that is due, in the order of choice, and the first of it
abbrev pub due_work : Known → List Work
due_work known = filter (is_due known) (works_of known)

abbrev pub first_due : Known → Option Work
first_due known = find (is_due known) (works_of known)

-- the work that is over the limit
abbrev pub over_limit : Known → List Work
over_limit known = filter (is_over_limit known) (works_of known)

-- nothing is out, due or over the limit
pub record IsQuiet (known : Known) : Type 0 where
  pub closed : has_open known ≡ false
  pub nothing_due : due_work known ≡ []
  pub nothing_over : over_limit known ≡ []
