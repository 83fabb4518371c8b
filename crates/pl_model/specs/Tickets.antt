-- Operations, their tickets and replies, and the lanes that do them.
use Rattle.std.specs.Prelude.{ℕ, ◌+◌, ◌==◌, Bool, true, false, not, ◌&&◌, if◌then◌else◌, Option, None, Some, List, [], ◌∷◌, length, filter, find, map, reverse, option_map, option_and_then}
use Rattle.std.specs.List.{list_any, filter_map, range_with_len, cons_option}
use Rattle.std.specs.Option.{option_or}
use Rattle.pl_value.specs.Inside.{greatest}
use Rattle.pl_events.specs.declared.event.Event.{Event}
use Rattle.pl_events.specs.declared.event.What.{What}
use Rattle.pl_events.specs.declared.event.What.TheVariants.{Begun, Answered, Lost}
use Rattle.pl_events.specs.declared.operation.Op.{Op}
use Rattle.pl_events.specs.declared.operation.Op.TheVariants as op
use Rattle.pl_events.specs.declared.operation.Subject.{Subject}
use Rattle.pl_events.specs.declared.operation.Subject.TheVariants as subject
use Rattle.pl_events.specs.declared.operation.Source.{Source}
use Rattle.pl_events.specs.declared.operation.Source.TheVariants as source
use Rattle.pl_events.specs.declared.reply.Reply.{Reply}
use Rattle.pl_events.specs.declared.reply.Reply.TheVariants.{Configured}
use Rattle.pl_model.specs.declared.errand.Closed.{Closed}
use Rattle.pl_model.specs.declared.errand.Errand.{Errand}

abbrev pub same_subject : Subject → Subject → Bool
same_subject (subject.Goal a) (subject.Goal b) = a == b
same_subject (subject.Row a) (subject.Row b) = a == b
same_subject (subject.Pending a) (subject.Pending b) = a == b
same_subject _ _ = false

abbrev pub same_source : Source → Source → Bool
same_source (source.Goal a) (source.Goal b) = a == b
same_source (source.Row a) (source.Row b) = a == b
same_source _ _ = false

abbrev pub same_op : Op → Op → Bool
same_op (op.CheckConfig a) (op.CheckConfig b) = same_subject a b
same_op (op.Configure a) (op.Configure b) = same_source a b
same_op (op.Check a) (op.Check b) = same_subject a b
same_op (op.Diff a) (op.Diff b) = same_subject a b
same_op (op.Create a) (op.Create b) = same_subject a b
same_op (op.Update a) (op.Update b) = same_subject a b
same_op (op.Delete a) (op.Delete b) = same_subject a b
same_op (op.Read a) (op.Read b) = same_subject a b
same_op (op.Invoke a) (op.Invoke b) = a == b
same_op _ _ = false

abbrev pub errand_by : ℕ → What → Option Errand
errand_by seat (Begun ticket lane op) = Some (record { ticket = ticket; seat = seat; lane = lane; op = op })
errand_by seat _ = None

-- the errand that an event begins, if it begins one
abbrev pub errand_of : Event → Option Errand
errand_of event = errand_by event.seat event.what

-- the operations that were begun, newest first
abbrev pub begun_of : List Event → List Errand
begun_of history = filter_map errand_of history

-- the ticket of the next operation: the number of those that were begun
abbrev pub next_ticket : List Event → ℕ
next_ticket history = length (begun_of history)

-- the errand of a ticket
abbrev pub errand_at : List Event → ℕ → Option Errand
errand_at history ticket = find (λ errand. errand.ticket == ticket) (begun_of history)

abbrev pub op_at : List Event → ℕ → Option Op
op_at history ticket = option_map (λ errand. errand.op) (errand_at history ticket)

abbrev pub was_begun : List Event → Op → Bool
was_begun history op = list_any (λ errand. same_op errand.op op) (begun_of history)

-- whether an event answers or loses a ticket
abbrev pub closes : ℕ → What → Bool
closes ticket (Answered closed reply) = closed == ticket
closes ticket (Lost closed why) = closed == ticket
closes ticket _ = false

abbrev pub loses : ℕ → What → Bool
loses ticket (Lost closed why) = closed == ticket
loses ticket _ = false

abbrev pub is_closed : List Event → ℕ → Bool
is_closed history ticket = list_any (λ event. closes ticket event.what) history

-- the errands without a reply or a loss, newest first
abbrev pub open_errands : List Event → List Errand
open_errands history = filter (λ errand. not (is_closed history errand.ticket)) (begun_of history)

abbrev pub is_open : List Event → ℕ → Bool
is_open history ticket = list_any (λ errand. errand.ticket == ticket) (open_errands history)

-- what an event answers, by the history before it
abbrev pub closed_by : List Event → What → Option Closed
closed_by past (Answered ticket reply) = option_map (λ op. record { op = op; reply = reply }) (op_at past ticket)
closed_by past _ = None

-- the operations that were answered, newest first
abbrev pub answers_of : List Event → List Closed
answers_of [] = []
answers_of (event ∷ past) = cons_option (closed_by past event.what) (answers_of past)

-- the reply that an answered operation gives to an operation, if it is the same
abbrev pub reply_if : Bool → Reply → Option Reply
reply_if true reply = Some reply
reply_if false reply = None

-- the reply to an operation: the first that came, so that none after it changes what was replied
abbrev pub reply_to : List Closed → Op → Option Reply
reply_to [] op = None
reply_to (closed ∷ earlier) op = option_or (reply_to earlier op) (reply_if (same_op closed.op op) closed.reply)

-- ---- lanes

-- the first errand on a lane
abbrev pub first_on : List Event → ℕ → Option Errand
first_on history lane = find (λ errand. errand.lane == lane) (reverse (begun_of history))

-- the provider that an operation makes a lane for
abbrev pub source_begun : Op → Option Source
source_begun (op.CheckConfig (subject.Goal goal)) = Some (source.Goal goal)
source_begun (op.Configure provider) = Some provider
source_begun _ = None

-- a lane's source: that of the first operation begun on it
abbrev pub lane_source : List Event → ℕ → Option Source
lane_source history lane = option_and_then (λ errand. source_begun errand.op) (first_on history lane)

-- how many lanes there are; they are numbered from 0 in order of their start
abbrev pub lane_count : List Event → ℕ
lane_count history = greatest (map (λ errand. errand.lane + 1) (begun_of history))

abbrev pub is_source : Option Source → Source → Bool
is_source None wanted = false
is_source (Some own) wanted = same_source own wanted

-- the lanes of a source, in order of their start; lost ones too
abbrev pub lanes_from : List Event → Source → List ℕ
lanes_from history wanted =
    filter (λ lane. is_source (lane_source history lane) wanted) (range_with_len 0 (lane_count history))

abbrev pub is_configured_reply : Option Reply → Bool
is_configured_reply (Some Configured) = true
is_configured_reply _ = false

-- the reply to a ticket
abbrev pub says_to : ℕ → What → Option Reply
says_to ticket (Answered closed reply) = if closed == ticket then Some reply else None
says_to ticket _ = None

abbrev pub says_configured : ℕ → What → Bool
says_configured ticket what = is_configured_reply (says_to ticket what)

-- whether an errand was answered by the word that its lane is configured
abbrev pub has_configured : List Event → Errand → Bool
has_configured history errand = list_any (λ event. says_configured errand.ticket event.what) history

-- `Configured` was answered on the lane
abbrev pub is_configured : List Event → ℕ → Bool
is_configured history lane = list_any (λ errand. errand.lane == lane && has_configured history errand) (begun_of history)

-- a ticket of the lane is open
abbrev pub is_out : List Event → ℕ → Bool
is_out history lane = list_any (λ errand. errand.lane == lane) (open_errands history)

-- an errand of the lane was lost
abbrev pub is_lost : List Event → ℕ → Bool
is_lost history lane =
    list_any (λ errand. errand.lane == lane && list_any (λ event. loses errand.ticket event.what) history) (begun_of history)

-- whether work can be sent to the lane now
abbrev pub is_free : List Event → ℕ → Bool
is_free history lane = is_configured history lane && not (is_out history lane) && not (is_lost history lane)

-- the least lane of a source that work can be sent to
abbrev pub lane_free : List Event → Source → Option ℕ
lane_free history wanted = find (is_free history) (lanes_from history wanted)

-- a lane of the source is not configured yet, and not lost
abbrev pub is_coming : List Event → ℕ → Bool
is_coming history lane = not (is_configured history lane) && not (is_lost history lane)

-- whether a provider's first lane was configured
abbrev pub was_configured : List Event → Source → Bool
was_configured history wanted = list_any (is_configured history) (lanes_from history wanted)
