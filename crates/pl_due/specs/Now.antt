-- What is due, as it is found out by what is seen: the limit by the count that is kept, and the providers that want a lane
-- by one pass over the operations.
pub use Rattle.pl_lanes.specs.Lanes.{awaits_lane, checked_there}
use Rattle.std.specs.Prelude.{◌≡◌, ℕ, ◌+◌, ◌==◌, Bool, true, false, not, ◌&&◌, ◌||◌, if◌then◌else◌, nat_lt, Option, None, Some, is_none, is_some, List, ◌++◌, find, length, map, reverse, option_and_then}
use Rattle.std.specs.List.{list_any, range_with_len}
use Rattle.pl_lemmas.specs.Words.{some_passes}
use Rattle.pl_events.specs.Lanes.{LanesTold}
use Rattle.pl_events.specs.declared.event.Event.{Event}
use Rattle.pl_events.specs.declared.operation.Op.{Op}
use Rattle.pl_events.specs.declared.operation.Op.TheVariants as op
use Rattle.pl_events.specs.declared.operation.Source.{Source}
use Rattle.pl_events.specs.declared.operation.Source.TheVariants as source
use Rattle.pl_events.specs.declared.operation.Subject.TheVariants as subject
use Rattle.pl_model.specs.Choice.{TellsLanes, can_be_taken}
use Rattle.pl_model.specs.Due.{added_by, all_sends, checks_of, configures_of, goal_numbers, has_open, imports_read, invokes_of, is_checked_lane, is_clear_ready, is_drop_ready, is_due, is_keep_ready, is_post_due, is_wanted_op, may_configure, operations_of, pending_numbers, reads_of, sends_of, source_of_op, works_of}
use Rattle.pl_model.specs.Decisions.{checked_in}
use Rattle.pl_model.specs.Known.{Known, has_problem}
use Rattle.pl_model.specs.Rows.{row_numbers}
use Rattle.pl_model.specs.Run.{rows_of}
use Rattle.pl_model.specs.Tickets.{is_coming, is_source, lane_count, lane_free, lanes_from, reply_to, was_begun}
use Rattle.pl_model.specs.declared.work.Work.{Work}
use Rattle.pl_model.specs.declared.work.Work.TheVariants.{Clear as to_clear, Drop as to_drop, Keep as to_keep, Post as to_post, Send as to_send}
use Rattle.pl_state.specs.Formed.{most_resources}
use Rattle.pl_due.specs.Seen.{Tells, known_after, known_in}
use Rattle.pl_due.specs.declared.kind.Kind.{Kind}
use Rattle.pl_due.specs.declared.kind.Kind.TheVariants as kind
use Rattle.pl_due.specs.declared.seen.Seen.{Seen}

-- ---- the limit

-- whether work would make the count that is kept greater than it may be
abbrev pub passes_now : Seen → Work → Bool
passes_now seen work =
    not (added_by (known_in seen) work == 0) && nat_lt most_resources (seen.count + added_by (known_in seen) work)

-- ---- which providers want a lane

-- whether one more lane may be started for a provider: none of it is free or being configured, and it has fewer than it
-- may have
abbrev pub lacks_lane : Known → Source → Bool
lacks_lane known wanted =
    is_none (lane_free known.history wanted)
    && not (list_any (is_coming known.history) (lanes_from known.history wanted))
    && nat_lt (length (lanes_from known.history wanted)) known.run.parallel

-- whether an operation of a provider is to be done, and is not over the limit
abbrev pub is_work_of : Seen → Source → Op → Bool
is_work_of seen wanted about =
    is_source (source_of_op (known_in seen) about) wanted && is_wanted_op (known_in seen) about
    && not (passes_now seen (to_send about))

-- whether one more lane of a provider is to be started, for one of these operations
abbrev pub wants_for : Seen → List Op → Source → Bool
wants_for seen works wanted = list_any (is_work_of seen wanted) works && lacks_lane (known_in seen) wanted

-- the providers in the order in which their lanes are chosen: goals rising, rows falling
abbrev pub providers_of : Known → List Source
providers_of known = map source.Goal (goal_numbers known) ++ map source.Row (reverse (row_numbers known))

-- the first provider that wants a lane for one of these operations
abbrev pub first_wanting : Seen → List Op → Option Source
first_wanting seen works = find (wants_for seen works) (providers_of (known_in seen))

-- ---- one pass over the operations

-- whether a provider stands before another one in that order
abbrev pub is_before : Source → Source → Bool
is_before (source.Goal a) (source.Goal b) = nat_lt a b
is_before (source.Goal a) (source.Row b) = true
is_before (source.Row a) (source.Goal b) = false
is_before (source.Row a) (source.Row b) = nat_lt b a

-- whether there is such a goal or row
abbrev pub is_listed : Known → Source → Bool
is_listed known (source.Goal number) = nat_lt number (length known.goals)
is_listed known (source.Row row) = nat_lt row (length (rows_of known.run))

abbrev pub earlier : Option Source → Source → Source
earlier None other = other
earlier (Some best) other = if is_before other best then other else best

-- the provider that wants a lane for an operation, if there is one
abbrev pub wanting_for : Seen → Op → Option Source
wanting_for seen about =
    option_and_then (λ own. if is_wanted_op (known_in seen) about && not (passes_now seen (to_send about))
    && (is_listed (known_in seen) own && lacks_lane (known_in seen) own) then Some own else None)
    (source_of_op (known_in seen) about)

abbrev pub better_with : Option Source → Option Source → Option Source
better_with best None = best
better_with best (Some other) = Some (earlier best other)

-- the first provider that wants a lane, with one operation more
abbrev pub better : Seen → Option Source → Op → Option Source
better seen best about = better_with best (wanting_for seen about)

-- the operation of a kind that is about a number
abbrev pub op_at : Kind → ℕ → Op
op_at kind.Delete number = op.Delete (subject.Row number)
op_at kind.Check number = op.Check (subject.Goal number)
op_at kind.Diff number = op.Diff (subject.Goal number)
op_at kind.Create number = op.Create (subject.Goal number)
op_at kind.Update number = op.Update (subject.Goal number)
op_at kind.ReadGoal number = op.Read (subject.Goal number)
op_at kind.ReadRow number = op.Read (subject.Row number)
op_at kind.Import number = op.Read (subject.Pending number)

-- all operations that are sent to a lane which is there, kind by kind
abbrev pub works_at : Kind → ℕ → List Op
works_at kind count = map (op_at kind) (range_with_len 0 count)

abbrev pub check_works : Known → List Op
check_works known = works_at kind.Check (length known.goals) ++ works_at kind.Diff (length known.goals)

abbrev pub send_works : Known → List Op
send_works known =
    works_at kind.Create (length known.goals)
    ++ (works_at kind.Update (length known.goals) ++ works_at kind.ReadGoal (length known.goals))

abbrev pub all_works : Seen → List Op
all_works seen =
    works_at kind.Delete (length (rows_of (known_in seen).run)) ++ (check_works (known_in seen) ++ (send_works (known_in seen)
    ++ (works_at kind.ReadRow (length (rows_of (known_in seen).run))
    ++ (works_at kind.Import (length (known_in seen).run.base.pending) ++ map op.Invoke seen.requests.now))))

-- ---- what is due

-- whether an operation is to be sent to a lane that a table has for it
abbrev pub uses_now : Seen → LanesTold → Op → Bool
uses_now seen table about =
    is_wanted_op (known_in seen) about && is_some (option_and_then table.free (source_of_op (known_in seen) about))
    && not (passes_now seen (to_send about))

-- whether an operation is to be sent; a check of a provider's inputs and what else is configured start a lane
abbrev pub sends_now : Seen → LanesTold → Op → Bool
sends_now seen table (op.CheckConfig about) = is_wanted_op (known_in seen) (op.CheckConfig about)
sends_now seen table (op.Configure provider) =
    is_some (checked_there (known_in seen) provider) || wants_for seen (operations_of (known_in seen)) provider
sends_now seen table about = uses_now seen table about

-- whether work is due, where no problem stands
abbrev pub due_now : Seen → LanesTold → Work → Bool
due_now seen table (to_post n) = is_post_due (known_in seen) n
due_now seen table (to_keep number) = is_keep_ready (known_in seen) number && not (passes_now seen (to_keep number))
due_now seen table (to_clear at) = is_clear_ready (known_in seen) at
due_now seen table (to_drop row) = is_drop_ready (known_in seen) row
due_now seen table (to_send about) = sends_now seen table about

-- whether work may be done at all: after a problem only posts are
abbrev pub may_now : Known → Work → Bool
may_now known (to_post n) = true
may_now known _ = not (has_problem known)

-- what is due after a history that is told, where a table tells the lanes
abbrev pub DueTold : Type 0
DueTold = (seen : Seen) (history : List Event) (table : LanesTold) → Tells seen history → TellsLanes table (known_after seen history)
    → (work : Work) → is_due (known_after seen history) work ≡ (may_now (known_in seen) work && due_now seen table work)

-- ---- providers that are checked and configured

-- whether the provider that a goal is is to be checked or configured, where this one is the first that wants a lane
abbrev pub configures_now : Seen → Option Source → ℕ → Bool
configures_now seen wanting number =
    is_wanted_op (known_in seen) (op.CheckConfig (subject.Goal number))
    || (is_some (checked_there (known_in seen) (source.Goal number)) || is_source wanting (source.Goal number))

-- the operation by which it is
abbrev pub config_op : Seen → ℕ → Op
config_op seen number =
    if is_wanted_op (known_in seen) (op.CheckConfig (subject.Goal number)) then op.CheckConfig (subject.Goal number)
    else op.Configure (source.Goal number)

-- the configuration of a row
abbrev pub row_config : Option Source → Option Op
row_config (Some (source.Row row)) = Some (op.Configure (source.Row row))
row_config _ = None

-- ---- what goals need

-- whether a goal's inputs are to be checked or compared, and by which operation
abbrev pub checks_now : Seen → LanesTold → ℕ → Bool
checks_now seen table number =
    uses_now seen table (op.Check (subject.Goal number)) || uses_now seen table (op.Diff (subject.Goal number))

abbrev pub check_op : Seen → LanesTold → ℕ → Op
check_op seen table number =
    if uses_now seen table (op.Check (subject.Goal number)) then op.Check (subject.Goal number) else op.Diff (subject.Goal number)

-- whether a goal's thing is to be made, changed or read, and by which operation
abbrev pub makes_now : Seen → LanesTold → ℕ → Bool
makes_now seen table number =
    uses_now seen table (op.Create (subject.Goal number)) || uses_now seen table (op.Update (subject.Goal number))
    || uses_now seen table (op.Read (subject.Goal number))

abbrev pub make_op : Seen → LanesTold → ℕ → Op
make_op seen table number =
    if uses_now seen table (op.Create (subject.Goal number)) then op.Create (subject.Goal number)
    else (if uses_now seen table (op.Update (subject.Goal number)) then op.Update (subject.Goal number) else op.Read (subject.Goal number))

-- the operations in the order of choice, but for those before
abbrev pub asked_ops : Known → List Op
asked_ops known = imports_read known ++ invokes_of known

abbrev pub reading_ops : Known → List Op
reading_ops known = reads_of known ++ asked_ops known

abbrev pub make_ops : Known → List Op
make_ops known = sends_of known ++ reading_ops known

abbrev pub goal_ops : Known → List Op
goal_ops known = checks_of known ++ make_ops known

abbrev pub provider_ops : Known → List Op
provider_ops known = configures_of known ++ goal_ops known

-- ---- the choice

-- the work in the order of choice, but for the work before
abbrev pub removals_of : Known → List Work
removals_of known = map to_drop (reverse (row_numbers known)) ++ map to_send (all_sends known)

abbrev pub clears_of : Known → List Work
clears_of known = map to_clear (pending_numbers known) ++ removals_of known

abbrev pub others_of : Known → List Work
others_of known = map to_keep (goal_numbers known) ++ clears_of known

-- the first work that is due and can be taken up
abbrev pub taken_now : Seen → LanesTold → Option Work
taken_now seen table =
    find (λ work. can_be_taken table.half_home work && (may_now (known_in seen) work && due_now seen table work))
    (works_of (known_in seen))

-- the lane there is that an operation goes to
abbrev pub lane_now : Seen → LanesTold → Op → Option ℕ
lane_now seen table (op.CheckConfig about) = None
lane_now seen table (op.Configure provider) = checked_there (known_in seen) provider
lane_now seen table about = option_and_then table.free (source_of_op (known_in seen) about)

-- ---- what is over the limit

-- whether an operation is to be sent to a lane that a table has for it, but for the limit
abbrev pub passes_lane : Seen → LanesTold → Op → Bool
passes_lane seen table about =
    is_wanted_op (known_in seen) about && is_some (option_and_then table.free (source_of_op (known_in seen) about))
    && passes_now seen (to_send about)

-- whether something of a goal is over the limit, where no problem stands: it is to be kept, made or read
abbrev pub goal_over : Seen → LanesTold → ℕ → Bool
goal_over seen table number =
    (is_keep_ready (known_in seen) number && passes_now seen (to_keep number))
    || passes_lane seen table (op.Create (subject.Goal number)) || passes_lane seen table (op.Read (subject.Goal number))

-- whether work is over the limit and nothing else is due or open
abbrev pub too_many_now : Seen → LanesTold → Bool
too_many_now seen table =
    not (list_any (is_post_due (known_in seen)) seen.requests.now) && not (has_open (known_in seen))
    && not (has_problem (known_in seen)) && list_any (goal_over seen table) (goal_numbers (known_in seen))
