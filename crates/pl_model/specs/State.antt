-- Pending operations, and the state of a history.
use Rattle.std.specs.Prelude.{ℕ, ◌==◌, Bool, true, false, not, ◌||◌, if◌then◌else◌, Option, None, Some, List, [], ◌∷◌, ◌++◌, filter, map, reverse, option_map, option_and_then}
use Rattle.std.specs.List.{filter_map, list_any, enumerate_from, cons_option}
use Rattle.pl_refresh.specs.Refreshed.{refreshed, pruned}
use Rattle.pl_refresh.specs.declared.row_now.RowNow.{RowNow}
use Rattle.pl_refresh.specs.declared.row_now.RowNow.TheVariants.{AsItWas, Found, Gone}
use Rattle.pl_state.specs.declared.entry.Entry.{Entry}
use Rattle.pl_state.specs.declared.goal.Goal.{Goal}
use Rattle.pl_state.specs.declared.pending.Pending.{Pending}
use Rattle.pl_state.specs.declared.pending.PendingKind.{PendingKind}
use Rattle.pl_state.specs.declared.pending.PendingKind.TheVariants.{Creating, Updating, Deleting}
use Rattle.pl_state.specs.declared.snapshot.Snapshot.{Snapshot}
use Rattle.pl_events.specs.declared.event.Event.{Event}
use Rattle.pl_events.specs.declared.event.What.{What}
use Rattle.pl_events.specs.declared.event.What.TheVariants.{Begun, Answered}
use Rattle.pl_events.specs.declared.operation.Op.{Op}
use Rattle.pl_events.specs.declared.operation.Op.TheVariants as op
use Rattle.pl_events.specs.declared.operation.Subject.TheVariants as subject
use Rattle.pl_events.specs.declared.reply.Reply.{Reply}
use Rattle.pl_events.specs.declared.reply.Reply.TheVariants as reply
use Rattle.pl_model.specs.declared.errand.Opened.{Opened}
use Rattle.pl_model.specs.declared.decided.Decided.{Decided}
use Rattle.pl_model.specs.declared.errand.Closed.{Closed}
use Rattle.pl_model.specs.declared.fixed.Fixed.{Fixed}
use Rattle.pl_model.specs.Run.{is_refresh, rows_of}
use Rattle.pl_model.specs.Tickets.{reply_to}
use Rattle.pl_lemmas.specs.Words.{has_number}
use Rattle.pl_model.specs.Recording.{cleared_of, goal_in, row_in}
use Rattle.pl_model.specs.Claims.{claimed_row, id_of_row}
use Rattle.pl_model.specs.Known.{Known, decided_goal, goal_at}
use Rattle.pl_model.specs.Entries.{goal_entry, new_entries, old_entries, old_row, outputs_of_row, result_with}
use Rattle.pl_model.specs.Rows.{pending_at}
use Rattle.pl_model.specs.History.{known_of}

-- ---- pending operations

-- the entry of a goal that is being made: without an id or outputs
abbrev pub creating_entry : Known → ℕ → Option Entry
creating_entry known number =
    option_and_then (λ goal. option_map (λ one. goal_entry known goal one (result_with None [] []))
    (decided_goal known number)) (goal_at known number)

-- the entry of a goal that is being changed: with its claim's id and outputs
abbrev pub updating_result : Known → Goal → Decided → Entry
updating_result known goal one =
    record (goal_entry known goal one (result_with (id_of_row (claimed_row known.run one.claim)) [] []))
    { outputs = outputs_of_row (claimed_row known.run one.claim) }

abbrev pub updating_entry : Known → ℕ → Option Entry
updating_entry known number =
    option_and_then (λ goal. option_map (updating_result known goal) (decided_goal known number)) (goal_at known number)

abbrev pub pending_with : PendingKind → Option Entry → Option Pending
pending_with kind entry = option_map (λ one. record { kind = kind; entry = one }) entry

-- the pending operation that an operation opens when it is begun after this history
abbrev pub pending_for : Known → Op → Option Pending
pending_for known (op.Create about) = pending_with Creating (option_and_then (creating_entry known) (goal_in about))
pending_for known (op.Update about) = pending_with Updating (option_and_then (updating_entry known) (goal_in about))
pending_for known (op.Delete about) = pending_with Deleting (option_and_then (old_row known) (row_in about))
pending_for known _ = None

abbrev pub opened_by : Known → What → Option Opened
opened_by before (Begun ticket lane about) =
    option_map (λ pending. record { ticket = ticket; pending = pending }) (pending_for before about)
opened_by before _ = None

-- the pending operations that a history's events opened, newest first, each as it was when it was begun
unfoldable pub opened_of : Fixed → List Event → List Opened
opened_of run [] = []
opened_of run (event ∷ past) = cons_option (opened_by (known_of run past) event.what) (opened_of run past)

-- a reply ends what is pending; a loss leaves it
abbrev pub is_answered : ℕ → What → Bool
is_answered ticket (Answered closed reply) = closed == ticket
is_answered ticket _ = false

abbrev pub was_answered : List Event → ℕ → Bool
was_answered history ticket = list_any (λ event. is_answered ticket event.what) history

-- the pending operations of a run's own, in order of their begin
abbrev pub own_pending : Fixed → List Event → List Pending
own_pending run history =
    map (λ opened. opened.pending)
    (filter (λ opened. not (was_answered history opened.ticket)) (reverse (opened_of run history)))

-- whether a reply found something, and what
abbrev pub is_found : Option Reply → Bool
is_found (Some (reply.Found id inputs outputs)) = true
is_found _ = false

-- whether a pending operation of the state at the start is no longer pending: it was cleared, or imported
abbrev pub is_cleared : Known → ℕ → Bool
is_cleared known at =
    has_number (cleared_of known.history) at || is_found (reply_to known.answers (op.Read (subject.Pending at)))

abbrev pub base_pending : Known → List Pending
base_pending known =
    map (λ one. one.1) (filter (λ one. not (is_cleared known one.0)) (enumerate_from 0 known.run.base.pending))

-- what is pending: what was at the start and is not cleared, then what the run began and has no reply to
abbrev pub pending_of : Known → List Pending
pending_of known = base_pending known ++ own_pending known.run known.history

-- ---- a run that reads everything anew

-- an entry as a reply to its reading makes it, if it found anything
abbrev pub found_by : Entry → Option Reply → Option Entry
found_by entry (Some (reply.Found id inputs outputs)) = Some (refreshed entry id inputs outputs)
found_by entry _ = None

-- a row as its reading left it
abbrev pub row_read : Entry → Option Reply → RowNow
row_read row (Some (reply.Found id inputs outputs)) = Found (refreshed row id inputs outputs)
row_read row (Some reply.Gone) = Gone
row_read row _ = AsItWas

abbrev pub rows_read : Known → List RowNow
rows_read known =
    map (λ row. row_read row.1 (reply_to known.answers (op.Read (subject.Row row.0)))) (enumerate_from 0 (rows_of known.run))

-- the pending operation that an answered operation read
abbrev pub pending_read : Op → Option ℕ
pending_read (op.Read (subject.Pending at)) = Some at
pending_read _ = None

-- the entry that an answer imports
abbrev pub imported_by : Known → Closed → Option Entry
imported_by known closed =
    option_and_then (λ at. option_and_then (λ pending. found_by pending.entry (Some closed.reply)) (pending_at known at))
    (pending_read closed.op)

-- the entries that were imported, in the order of their answers
abbrev pub imported_entries : Known → List Entry
imported_entries known = filter_map (imported_by known) (reverse known.answers)

-- the rows as their readings left them, without references to what is gone, and after them what was imported
abbrev pub refreshed_entries : Known → List Entry
refreshed_entries known = pruned (rows_of known.run) (rows_read known) (imported_entries known)

-- ---- the state

abbrev pub entries_now : Known → List Entry
entries_now known =
    if is_refresh known.run.mode then refreshed_entries known else new_entries known ++ old_entries known

abbrev pub state_now : Known → Snapshot
state_now known = record {
  stack = known.run.base.stack;
  entries = entries_now known;
  pending = pending_of known;
  rest = known.run.base.rest;
}

-- the state of a history: what was recorded, what is left, and what is pending
abbrev pub state_of : Fixed → List Event → Snapshot
state_of run history = state_now (known_of run history)
