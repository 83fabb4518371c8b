-- The problems of a history, in the order in which they count.
use Rattle.std.specs.Prelude.{ℕ, ◌-◌, Bool, true, false, not, ◌&&◌, ◌||◌, if◌then◌else◌, Option, None, Some, is_some, is_none, List, [], ◌++◌, length, find, map, take, reverse, option_map, option_and_then, slice_get, bytes_eq}
use Rattle.std.specs.List.{list_any, filter_map, enumerate_from}
use Rattle.std.specs.Option.{option_or}
use Rattle.pl_lemmas.specs.Words.{first_in, first_some, has_number, option_list, some_passes}
use Rattle.pl_state.specs.Chain.{last_provider, refers_to}
use Rattle.pl_state.specs.Kinds.{is_provided_row}
use Rattle.pl_state.specs.References.{keeps_urn}
use Rattle.pl_state.specs.declared.entry.Entry.{Entry}
use Rattle.pl_state.specs.declared.pending.Pending.{Pending}
use Rattle.pl_state.specs.declared.pending.PendingKind.{PendingKind}
use Rattle.pl_state.specs.declared.pending.PendingKind.TheVariants.{Creating}
use Rattle.pl_reference.specs.Reference.{reference_text}
use Rattle.pl_events.specs.declared.event.What.{What}
use Rattle.pl_events.specs.declared.event.What.TheVariants.{Told, HostGone, Answered, Lost, Stopped}
use Rattle.pl_events.specs.declared.event.HostEnd.{HostEnd}
use Rattle.pl_events.specs.declared.event.HostEnd.TheVariants as ended
use Rattle.pl_events.specs.declared.event.Stop.{Stop}
use Rattle.pl_events.specs.declared.event.Stop.TheVariants as stopped
use Rattle.pl_events.specs.declared.operation.Op.{Op}
use Rattle.pl_events.specs.declared.operation.Op.TheVariants as op
use Rattle.pl_events.specs.declared.operation.Subject.{Subject}
use Rattle.pl_events.specs.declared.operation.Subject.TheVariants as subject
use Rattle.pl_events.specs.declared.reply.Loss.{Loss}
use Rattle.pl_events.specs.declared.reply.Loss.TheVariants as loss
use Rattle.pl_events.specs.declared.reply.Reply.{Reply}
use Rattle.pl_events.specs.declared.reply.Reply.TheVariants as reply
use Rattle.pl_decide.specs.Permits.{is_wanted, permits_left}
use Rattle.pl_decide.specs.declared.decision.Decision.{Decision}
use Rattle.pl_decide.specs.declared.decision.Decision.TheVariants.{Refused}
use Rattle.pl_decide.specs.declared.problem.Child.TheVariants.{Host, Lane}
use Rattle.pl_decide.specs.declared.problem.Problem.{Problem}
use Rattle.pl_decide.specs.declared.problem.Problem.TheVariants as problem
use Rattle.pl_model.specs.declared.decided.Decided.{Decided}
use Rattle.pl_model.specs.declared.errand.Closed.{Closed}
use Rattle.pl_model.specs.declared.fixed.Fixed.{Fixed}
use Rattle.pl_model.specs.declared.heard.Fate.{Fate}
use Rattle.pl_model.specs.declared.heard.Fate.TheVariants.{Refused as refused}
use Rattle.pl_model.specs.Run.{imports_of, is_destroy, is_refresh, rows_of}
use Rattle.pl_model.specs.Tickets.{closed_by, errand_at}
use Rattle.pl_decide.specs.Limited.{is_create_first}
use Rattle.pl_model.specs.Claims.{chain_of_goal, claimer_of}
use Rattle.pl_model.specs.Known.{Known, decided_goal, goal_at, has_problem, is_over, known_by}
use Rattle.pl_model.specs.Requests.{fate_of}
use Rattle.pl_model.specs.Rows.{is_doomed, is_left, is_sent, pending_at, row_at, row_numbers, takes_along}

-- ---- single events

abbrev pub problem_of_fate : Fate → Option Problem
problem_of_fate (refused trouble) = Some trouble
problem_of_fate _ = None

-- the URN of what an operation is about; that of a row is the one that it has in the state at the start
abbrev pub urn_of_subject : Known → Subject → Option (List ℕ)
urn_of_subject known (subject.Goal goal) = option_map (λ one. one.urn) (goal_at known goal)
urn_of_subject known (subject.Row row) = option_map (λ one. one.urn) (row_at known row)
urn_of_subject known (subject.Pending at) = option_map (λ one. one.entry.urn) (pending_at known at)

abbrev pub subject_of : Op → Option Subject
subject_of (op.CheckConfig about) = Some about
subject_of (op.Configure provider) = None
subject_of (op.Check about) = Some about
subject_of (op.Diff about) = Some about
subject_of (op.Create about) = Some about
subject_of (op.Update about) = Some about
subject_of (op.Delete about) = Some about
subject_of (op.Read about) = Some about
subject_of (op.Invoke n) = None

abbrev pub urn_of_op : Known → Op → Option (List ℕ)
urn_of_op known about = option_and_then (urn_of_subject known) (subject_of about)

-- whether an operation reads a row of the state at the start, which may be gone
abbrev pub reads_row : Op → Bool
reads_row (op.Read (subject.Row row)) = true
reads_row _ = false

-- the problem that a reply is, if it is one
abbrev pub problem_of_reply : Known → Op → Reply → Option Problem
problem_of_reply known about (reply.CheckFailed reasons) = option_map problem.CheckFailed (urn_of_op known about)
problem_of_reply known about (reply.Error text) = Some (problem.ErrorReply text)
problem_of_reply known about (reply.MadePartly id outputs reasons) = option_map problem.PartialReply (urn_of_op known about)
problem_of_reply known about (reply.ChangedPartly outputs reasons) = option_map problem.PartialReply (urn_of_op known about)
problem_of_reply known about reply.Gone =
    if reads_row about then None else option_map problem.ImportMissing (urn_of_op known about)
problem_of_reply known about _ = None

abbrev pub problem_of_closed : Known → Closed → Option Problem
problem_of_closed known closed = problem_of_reply known closed.op closed.reply

-- the problem that a loss on a lane is
abbrev pub problem_of_loss : ℕ → Loss → Problem
problem_of_loss lane loss.PipeFault = problem.PipeFault (Lane lane)
problem_of_loss lane loss.Ended = problem.ChildEnded (Lane lane)
problem_of_loss lane (loss.BadFrame bytes) = problem.BadFrame (Lane lane) bytes
problem_of_loss lane loss.NoMemory = problem.NoMemory

-- the problem that a host's end is; its word of success is none
abbrev pub problem_of_end : HostEnd → Option Problem
problem_of_end ended.Success = None
problem_of_end (ended.Error text) = Some (problem.HostError text)
problem_of_end ended.Ended = Some (problem.ChildEnded Host)
problem_of_end ended.PipeFault = Some (problem.PipeFault Host)
problem_of_end (ended.BadFrame bytes) = Some (problem.BadFrame Host bytes)
problem_of_end ended.NoMemory = Some problem.NoMemory

-- the problem that a stop is
abbrev pub problem_of_stop : Stop → Problem
problem_of_stop stopped.StoreFault = problem.StoreFault
problem_of_stop stopped.StartFault = problem.StartFault
problem_of_stop stopped.HostPipeFault = problem.PipeFault Host
problem_of_stop stopped.TooManyResources = problem.TooManyResources
problem_of_stop stopped.MessageTooLong = problem.MessageTooLong
problem_of_stop stopped.NoMemory = problem.NoMemory

-- the problem that an event is by itself, after this history; a decision is none of the event's own
abbrev pub own_problem : Known → What → Option Problem
own_problem before (Told request) = None
own_problem before (HostGone end) = problem_of_end end
own_problem before (Answered ticket reply) =
    option_and_then (problem_of_closed before) (closed_by before.history (Answered ticket reply))
own_problem before (Lost ticket why) =
    option_map (λ errand. problem_of_loss errand.lane why) (errand_at before.history ticket)
own_problem before (Stopped stop) = Some (problem_of_stop stop)
own_problem before _ = None

abbrev pub request_problem : Known → What → Option Problem
request_problem before (Told request) = problem_of_fate (fate_of before request)
request_problem before _ = None

-- ---- decisions

-- what an event decided, in the order of the goals
abbrev pub newly_decided : Known → Known → List Decided
newly_decided before after = reverse (take (length after.decided - length before.decided) after.decided)

abbrev pub refusal_in : Decision → Option Problem
refusal_in (Refused trouble) = Some trouble
refusal_in _ = None

-- whether a row must be sent for and has no provider
abbrev pub lacks_provider : Known → ℕ → Bool
lacks_provider known row = is_sent known row && some_passes (λ entry. is_none entry.provider) (row_at known row)

-- whether a row is the claim of a goal that is replaced, the new thing first
abbrev pub is_claimed_beside : Known → ℕ → Bool
is_claimed_beside known row =
    some_passes (λ one. is_create_first one.decision) (option_and_then (decided_goal known) (claimer_of known.decided row))

-- whether a goal that is deleted first has the row deleted, now or once it was replaced
abbrev pub has_deleted : Known → Decided → ℕ → Bool
has_deleted known one row =
    takes_along known row one || (has_number (chain_of_goal known.run one) row && is_claimed_beside known row)

abbrev pub lacking_in : Known → Decided → ℕ → Option (List ℕ)
lacking_in known one row =
    if has_deleted known one row && lacks_provider known row
    then option_map (λ entry. entry.urn) (row_at known row) else None

-- the first row that a goal has deleted and that lacks its provider
abbrev pub missing_provider : Known → Decided → Option Problem
missing_provider known one =
    option_map problem.MissingProvider (first_some (lacking_in known one) (row_numbers known))

-- the problems of what an event decided: refusals first, in the order of the goals
abbrev pub decision_problems : Known → Known → List Problem
decision_problems before after =
    filter_map (λ one. refusal_in one.decision) (newly_decided before after)

abbrev pub provider_problems : Known → Known → List Problem
provider_problems before after = filter_map (missing_provider after) (newly_decided before after)

-- ---- the end of a run

abbrev pub row_problem : Known → (List ℕ → Problem) → (ℕ → Entry → Bool) → ℕ → Option Problem
row_problem known trouble test row =
    option_and_then (λ entry. if test row entry then Some (trouble entry.urn) else None) (row_at known row)

-- the first row, in order, that passes a test, as a problem with its URN
abbrev pub first_row : Known → (List ℕ → Problem) → (ℕ → Entry → Bool) → Option Problem
first_row known trouble test = first_some (row_problem known trouble test) (row_numbers known)

abbrev pub urn_or : List ℕ → Option (List ℕ) → List ℕ
urn_or urn None = urn
urn_or urn (Some turned) = turned

-- the row that keeps a URN, which is not to be deleted
abbrev pub keeper_of : Known → List ℕ → Option ℕ
keeper_of known urn =
    option_map (λ row. row.0) (find (λ row. keeps_urn urn row.1) (enumerate_from 0 (rows_of known.run)))

abbrev pub claimer_urn : Known → List ℕ → Option (List ℕ)
claimer_urn known urn =
    option_map (λ goal. goal.urn) (option_and_then (goal_at known) (option_and_then (claimer_of known.decided) (keeper_of known urn)))

-- the URN of the goal that claims, by an alias, the row that keeps this URN
abbrev pub turned_urn : Known → List ℕ → List ℕ
turned_urn known urn = urn_or urn (claimer_urn known urn)

-- whether the limits refuse that a row which is left be deleted
abbrev pub is_unpermitted : Known → ℕ → Entry → Bool
is_unpermitted known row entry =
    is_left known row && not (permits_left known.run.limits (turned_urn known entry.urn) entry.urn)

-- in a run that deletes everything: whether a row that is to be left refers to a doomed one
abbrev pub holds_doomed : Known → ℕ → Entry → Bool
holds_doomed known row entry =
    not (is_wanted known.run.limits entry.urn)
    && list_any (λ earlier. refers_to (rows_of known.run) row earlier && is_doomed known earlier) (row_numbers known)

abbrev pub limit_problem : Known → Option Problem
limit_problem known =
    if is_destroy known.run.mode then first_row known problem.NotPermitted (holds_doomed known)
    else (if is_refresh known.run.mode then None
    else first_row known problem.NotPermitted (is_unpermitted known))

-- the problems of what is left when the host has ended and every goal is recorded: a protected row, one that
-- must be sent for without a provider, one that the limits leave alone
abbrev pub end_problems : Known → List Problem
end_problems known =
    option_list (first_row known problem.Protected (λ row entry. is_doomed known row && entry.protect))
    ++ (option_list (first_row known problem.MissingProvider (λ row entry. is_doomed known row && lacks_provider known row))
    ++ option_list (limit_problem known))

-- ---- a run that reads everything anew

abbrev pub is_creating : PendingKind → Bool
is_creating Creating = true
is_creating _ = false

-- whether a pending operation is the creation of this URN
abbrev pub creates_urn : List ℕ → Pending → Bool
creates_urn urn pending = is_creating pending.kind && bytes_eq pending.entry.urn urn

-- the place of the first pending creation of a URN
abbrev pub pending_create : Fixed → List ℕ → Option ℕ
pending_create run urn =
    option_map (λ found. found.0) (find (λ one. creates_urn urn one.1) (enumerate_from 0 run.base.pending))

-- the pending creation that an import is of
abbrev pub imported_entry : Fixed → List ℕ × List ℕ → Option Entry
imported_entry run pair =
    option_map (λ pending. pending.entry) (option_and_then (λ at. slice_get run.base.pending at) (pending_create run pair.1))

-- the text of an entry's provider reference, where no row is that provider
abbrev pub unmet_provider : Fixed → Entry → Option (List ℕ)
unmet_provider run entry =
    option_and_then (λ reference. if is_some (last_provider (Some reference) (rows_of run)) then None else Some (reference_text reference))
    entry.provider

abbrev pub import_problem : (Entry → Option Problem) → Fixed → List ℕ × List ℕ → Option Problem
import_problem trouble run pair = option_and_then trouble (imported_entry run pair)

-- whether a row is to be read anew: it is provided for, and its replacement is not pending
abbrev pub is_to_read : Entry → Bool
is_to_read row = is_provided_row row && not row.pending_replacement

-- the entry's URN as a problem, where it names no provider
abbrev pub names_none : Entry → Option Problem
names_none entry = if is_none entry.provider then Some (problem.MissingProvider entry.urn) else None

abbrev pub unread_row : Entry → Option Problem
unread_row row = if is_to_read row then names_none row else None

abbrev pub no_create : Fixed → List ℕ × List ℕ → Option Problem
no_create run pair = if is_none (pending_create run pair.1) then Some (problem.NoPendingCreate pair.1) else None

-- what hinders a run that reads everything anew from its start
abbrev pub refresh_problems : Fixed → List Problem
refresh_problems run =
    option_list (first_some (no_create run) (imports_of run.mode))
    ++ (option_list (option_or (first_some unread_row (rows_of run)) (first_some (import_problem names_none run) (imports_of run.mode)))
    ++ option_list (first_some (import_problem (λ entry. option_map problem.UnknownReference (unmet_provider run entry)) run) (imports_of run.mode)))

-- ---- all problems

abbrev pub at_position : ℕ → List Problem → List (ℕ × Problem)
at_position position troubles = map (λ trouble. (position, trouble)) troubles

-- the problems before any event
abbrev pub start_problems : Fixed → List (ℕ × Problem)
start_problems run =
    at_position 0 (if is_refresh run.mode then refresh_problems run
    else (if is_over (known_by run [] [] [] []) then end_problems (known_by run [] [] [] []) else []))

-- the problems that an event makes of itself and by what it decides
abbrev pub made_problems : Known → Known → What → List Problem
made_problems before after what =
    option_list (request_problem before what)
    ++ (decision_problems before after ++ (option_list (own_problem before what) ++ provider_problems before after))

-- whether the run is over by this event, no problem stands before it, and it makes none
abbrev pub ends_well : Known → Known → What → Bool
ends_well before after what =
    is_over after && not (is_over before) && not (has_problem before)
    && is_none (first_in (made_problems before after what))

-- the problems that an event makes, in the order in which they count
abbrev pub problems_at : Known → Known → What → List Problem
problems_at before after what =
    made_problems before after what ++ (if ends_well before after what then end_problems after else [])
