-- Which goals are recorded, and which rows of the state at the start were taken out.
use Rattle.std.specs.Prelude.{ℕ, ◌==◌, Bool, true, false, Option, None, Some, List, [], ◌∷◌, option_and_then}
use Rattle.std.specs.List.{list_any, filter_map, cons_option}
use Rattle.std.specs.Option.{option_or}
use Rattle.pl_lemmas.specs.Words.{only_if}
use Rattle.pl_events.specs.declared.event.Event.{Event}
use Rattle.pl_events.specs.declared.event.What.{What}
use Rattle.pl_events.specs.declared.event.What.TheVariants.{Kept, Dropped, Cleared, Posted}
use Rattle.pl_events.specs.declared.operation.Op.{Op}
use Rattle.pl_events.specs.declared.operation.Op.TheVariants as op
use Rattle.pl_events.specs.declared.operation.Subject.{Subject}
use Rattle.pl_events.specs.declared.operation.Subject.TheVariants as subject
use Rattle.pl_events.specs.declared.reply.Reply.{Reply}
use Rattle.pl_events.specs.declared.reply.Reply.TheVariants.{Made, MadePartly, Changed, ChangedPartly, Removed, Found, Gone}
use Rattle.pl_model.specs.declared.errand.Closed.{Closed}
use Rattle.pl_model.specs.Tickets.{closed_by}

-- whether a reply says that a thing is there, made, changed or found
abbrev pub is_thing : Reply → Bool
is_thing (Made id outputs) = true
is_thing (MadePartly id outputs reasons) = true
is_thing (Changed outputs) = true
is_thing (ChangedPartly outputs reasons) = true
is_thing (Found id inputs outputs) = true
is_thing _ = false

abbrev pub is_removed : Reply → Bool
is_removed Removed = true
is_removed _ = false

abbrev pub is_gone : Reply → Bool
is_gone Gone = true
is_gone _ = false

-- the goal that a subject is
abbrev pub goal_in : Subject → Option ℕ
goal_in (subject.Goal goal) = Some goal
goal_in _ = None

-- the goal whose thing an operation makes, changes or reads
abbrev pub goal_of_op : Op → Option ℕ
goal_of_op (op.Create about) = goal_in about
goal_of_op (op.Update about) = goal_in about
goal_of_op (op.Read about) = goal_in about
goal_of_op _ = None

-- the goal that an answered operation records, if it records one
abbrev pub recorded_by_reply : Closed → Option ℕ
recorded_by_reply closed = only_if (is_thing closed.reply) (goal_of_op closed.op)

-- the goal that is kept without an operation
abbrev pub kept_by : What → Option ℕ
kept_by (Kept goal fresh) = Some goal
kept_by _ = None

-- the goal that an event records
abbrev pub recorded_by : List Event → What → Option ℕ
recorded_by past what = option_or (kept_by what) (option_and_then recorded_by_reply (closed_by past what))

-- the goals that are recorded, newest first
abbrev pub recorded_of : List Event → List ℕ
recorded_of [] = []
recorded_of (event ∷ past) = cons_option (recorded_by past event.what) (recorded_of past)

-- the number that a kept goal's id is made of, if it has one
abbrev pub fresh_by : ℕ → What → Option ℕ
fresh_by goal (Kept kept fresh) = only_if (kept == goal) fresh
fresh_by goal _ = None

abbrev pub fresh_of : List Event → ℕ → Option ℕ
fresh_of [] goal = None
fresh_of (event ∷ past) goal = option_or (fresh_of past goal) (fresh_by goal event.what)

-- ---- rows of the state at the start

abbrev pub row_in : Subject → Option ℕ
row_in (subject.Row row) = Some row
row_in _ = None

-- the row that an operation deletes
abbrev pub row_of_delete : Op → Option ℕ
row_of_delete (op.Delete about) = row_in about
row_of_delete _ = None

abbrev pub removed_by_reply : Closed → Option ℕ
removed_by_reply closed = only_if (is_removed closed.reply) (row_of_delete closed.op)

abbrev pub dropped_by : What → Option ℕ
dropped_by (Dropped row) = Some row
dropped_by _ = None

-- the row that an event takes out: it was deleted or dropped
abbrev pub removed_by : List Event → What → Option ℕ
removed_by past what = option_or (dropped_by what) (option_and_then removed_by_reply (closed_by past what))

abbrev pub removed_of : List Event → List ℕ
removed_of [] = []
removed_of (event ∷ past) = cons_option (removed_by past event.what) (removed_of past)

-- ---- pending operations of the state at the start, and posts

abbrev pub cleared_in : What → Option ℕ
cleared_in (Cleared at) = Some at
cleared_in _ = None

abbrev pub cleared_by : Event → Option ℕ
cleared_by event = cleared_in event.what

-- the pending operations that were cleared
abbrev pub cleared_of : List Event → List ℕ
cleared_of history = filter_map cleared_by history

abbrev pub posted_in : What → Option ℕ
posted_in (Posted n) = Some n
posted_in _ = None

-- the requests that were answered
abbrev pub posted_of : List Event → List ℕ
posted_of history = filter_map (λ event. posted_in event.what) history
