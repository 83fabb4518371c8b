-- How much work is left: a number that falls with what is begun, kept, dropped, cleared and posted, and that only a
-- told request raises.
use Rattle.std.specs.Prelude.{ℕ, ◌+◌, ◌-◌, not, List, ◌++◌, filter, length, map}
use Rattle.std.specs.List.{sum_by}
use Rattle.pl_events.specs.declared.event.Event.{Event}
use Rattle.pl_events.specs.declared.operation.Op.{Op}
use Rattle.pl_events.specs.declared.operation.Op.TheVariants as op
use Rattle.pl_events.specs.declared.operation.Source.{Source}
use Rattle.pl_events.specs.declared.operation.Source.TheVariants as source
use Rattle.pl_events.specs.declared.operation.Subject.TheVariants as subject
use Rattle.pl_model.specs.Tickets.{begun_of, same_op, was_begun}
use Rattle.pl_lemmas.specs.Words.{has_number}
use Rattle.pl_model.specs.Recording.{cleared_of, posted_of}
use Rattle.pl_model.specs.Known.{Known, is_recorded}
use Rattle.pl_model.specs.Rows.{row_numbers, was_removed}
use Rattle.pl_model.specs.Due.{goal_numbers, operations_of, pending_numbers, request_numbers}

-- the operations that there may be, but for the configurations of lanes
abbrev pub all_operations : Known → List Op
all_operations known = map (λ number. op.CheckConfig (subject.Goal number)) (goal_numbers known) ++ operations_of known

-- those that were not begun
abbrev pub unbegun : Known → List Op
unbegun known = filter (λ about. not (was_begun known.history about)) (all_operations known)

-- how often an operation was begun
abbrev pub times_begun : List Event → Op → ℕ
times_begun history about = length (filter (λ errand. same_op errand.op about) (begun_of history))

-- how many lanes of a source may still be configured
abbrev pub lanes_left : Known → Source → ℕ
lanes_left known wanted = known.run.parallel - times_begun known.history (op.Configure wanted)

-- the sources that there may be: goals and rows
abbrev pub sources_of : Known → List Source
sources_of known = map source.Goal (goal_numbers known) ++ map source.Row (row_numbers known)

abbrev pub unrecorded : Known → List ℕ
unrecorded known = filter (λ number. not (is_recorded known number)) (goal_numbers known)

abbrev pub unremoved : Known → List ℕ
unremoved known = filter (λ row. not (was_removed known row)) (row_numbers known)

abbrev pub uncleared : Known → List ℕ
uncleared known = filter (λ at. not (has_number (cleared_of known.history) at)) (pending_numbers known)

abbrev pub unposted : Known → List ℕ
unposted known = filter (λ n. not (has_number (posted_of known.history) n)) (request_numbers known)

-- the number of pieces of work that are left
abbrev pub left_of : Known → ℕ
left_of known =
    length (unbegun known) + sum_by (lanes_left known) (sources_of known) + length (unrecorded known)
    + length (unremoved known) + length (uncleared known) + length (unposted known)
