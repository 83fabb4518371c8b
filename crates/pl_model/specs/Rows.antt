-- The rows of the state at the start during a run: which are left, which are to be deleted, and by whom they are
-- provided for.
use Rattle.std.specs.Prelude.{ℕ, Bool, not, ◌&&◌, ◌||◌, nat_lt, Option, None, Some, List, length, filter, option_map, option_and_then, slice_get}
use Rattle.std.specs.List.{list_any, range_with_len}
use Rattle.pl_lemmas.specs.Words.{has_number, is_row, only_if, some_passes}
use Rattle.pl_state.specs.Chain.{deleter_row_of, goes_along, last_provider, provider_row_of, refers_to}
use Rattle.pl_state.specs.Kinds.{is_provided_row}
use Rattle.pl_state.specs.declared.entry.Entry.{Entry}
use Rattle.pl_state.specs.declared.pending.Pending.{Pending}
use Rattle.pl_events.specs.declared.operation.Source.{Source}
use Rattle.pl_events.specs.declared.operation.Source.TheVariants as source
use Rattle.pl_decide.specs.Permits.{is_wanted}
use Rattle.pl_model.specs.Run.{rows_of, is_destroy, is_refresh}
use Rattle.pl_model.specs.Recording.{removed_of}
use Rattle.pl_decide.specs.Limited.{is_create_first, is_delete_first}
use Rattle.pl_model.specs.declared.decided.Decided.{Decided}
use Rattle.pl_model.specs.Claims.{chain_of_goal, claimer_of, is_claimed}
use Rattle.pl_model.specs.Known.{Known, decided_goal, goal_at, is_over, is_recorded}

abbrev pub row_at : Known → ℕ → Option Entry
row_at known row = slice_get (rows_of known.run) row

-- the numbers of the rows
abbrev pub row_numbers : Known → List ℕ
row_numbers known = range_with_len 0 (length (rows_of known.run))

-- the goal that claims a row and is recorded
abbrev pub recorded_claimer : Known → ℕ → Option ℕ
recorded_claimer known row =
    option_and_then (λ goal. only_if (is_recorded known goal) (Some goal)) (claimer_of known.decided row)

-- whether a recorded goal put a new thing beside the one of its claim
abbrev pub stands_beside : Known → ℕ → Bool
stands_beside known goal = some_passes (λ one. is_create_first one.decision) (decided_goal known goal)

-- whether a row was taken over: a recorded goal claims it and does not have it stand beside its own thing
abbrev pub is_taken_over : Known → ℕ → Bool
is_taken_over known row = some_passes (λ goal. not (stands_beside known goal)) (recorded_claimer known row)

-- whether a row was replaced by a recorded goal and is still to be deleted
abbrev pub is_replaced : Known → ℕ → Bool
is_replaced known row = some_passes (stands_beside known) (recorded_claimer known row)

-- whether a row was deleted or dropped
abbrev pub was_removed : Known → ℕ → Bool
was_removed known row = has_number (removed_of known.history) row

-- whether a row is the claim of a goal that is deleted first
abbrev pub is_deleted_first : Known → ℕ → Bool
is_deleted_first known row = list_any (λ one. is_delete_first one.decision && is_row one.claim row) known.decided

-- whether a row's thing was deleted to be made anew: the row holds its URN until its goal is recorded
abbrev pub is_held : Known → ℕ → Bool
is_held known row = was_removed known row && is_deleted_first known row

-- whether a row was taken out: it was deleted or dropped, and holds its URN for no goal
abbrev pub is_taken_out : Known → ℕ → Bool
is_taken_out known row = was_removed known row && not (is_deleted_first known row)

-- whether a row is still among the old entries
abbrev pub is_left : Known → ℕ → Bool
is_left known row =
    nat_lt row (length (rows_of known.run)) && not (is_taken_out known row) && not (is_taken_over known row)

-- the numbers of the rows that are left, in order
abbrev pub left_rows : Known → List ℕ
left_rows known = filter (is_left known) (row_numbers known)

-- whether a row is marked to be deleted: in the state at the start, or since it was replaced
abbrev pub is_marked : Known → ℕ → Bool
is_marked known row = some_passes (λ entry. entry.doomed) (row_at known row) || is_replaced known row

-- whether the replacement of a row is pending: in the state at the start, or since the row was deleted first
abbrev pub is_to_be_made : Known → ℕ → Bool
is_to_be_made known row = some_passes (λ entry. entry.pending_replacement) (row_at known row) || is_held known row

-- whether a row of a chain goes along now, marked as it is
abbrev pub goes_now : Known → ℕ → Bool
goes_now known row =
    some_passes (λ entry. goes_along (is_claimed known.decided) (row, record entry { doomed = is_marked known row }))
    (row_at known row)

-- whether a goal that is deleted first takes the row along: it is the goal's claim, or it is in its chain and goes
-- along with it
abbrev pub takes_along : Known → ℕ → Decided → Bool
takes_along known row one =
    is_delete_first one.decision
    && (is_row one.claim row || (has_number (chain_of_goal known.run one) row && goes_now known row))

-- in a run that deletes everything, whether the limits leave the row to be deleted
abbrev pub is_target : Known → ℕ → Bool
is_target known row =
    not (is_destroy known.run.mode) || some_passes (λ entry. is_wanted known.run.limits entry.urn) (row_at known row)

-- whether a row that is left is to be deleted or dropped: some goal takes it along, or the host has ended and
-- every goal is recorded; in a run that reads everything anew, none is
abbrev pub is_doomed : Known → ℕ → Bool
is_doomed known row =
    is_left known row && not (is_refresh known.run.mode) && is_target known row
    && (is_over known || list_any (takes_along known row) known.decided)

-- whether the thing of a row is one to be deleted by a provider: not that of a component or of a provider, and not
-- what is only read or is to be retained
abbrev pub is_deletable : Entry → Bool
is_deletable row = is_provided_row row && not row.external && not row.retain_on_delete

-- whether the thing of a row goes with that of another one, whose deletion takes it along: the row that it names is
-- left, and is to be deleted by a provider
abbrev pub goes_with : Known → ℕ → Bool
goes_with known row =
    some_passes (λ other. is_doomed known other && some_passes is_deletable (row_at known other))
    (deleter_row_of (rows_of known.run) row)

-- whether the deletion of a row is sent to a provider; else it is dropped: it is none to be deleted, its thing was
-- deleted in an earlier run and not made anew, or it goes with another one
abbrev pub is_sent : Known → ℕ → Bool
is_sent known row =
    some_passes (λ entry. is_deletable entry && not entry.pending_replacement) (row_at known row)
    && not (goes_with known row)

-- whether a later row that refers to this one is left
abbrev pub has_dependents : Known → ℕ → Bool
has_dependents known row =
    list_any (λ later. refers_to (rows_of known.run) later row && is_left known later) (row_numbers known)

-- ---- sources

abbrev pub source_by : ℕ → Option ℕ → Source
source_by row None = source.Row row
source_by row (Some goal) = source.Goal goal

-- the source of a provider's row: the goal that claims it once that is recorded, and the row itself before
abbrev pub source_of_provider : Known → ℕ → Source
source_of_provider known row = source_by row (recorded_claimer known row)

-- the source of a row's operations
abbrev pub source_of_row : Known → ℕ → Option Source
source_of_row known row = option_map (source_of_provider known) (provider_row_of (rows_of known.run) row)

abbrev pub pending_at : Known → ℕ → Option Pending
pending_at known at = slice_get known.run.base.pending at

-- the source of a pending operation: its provider's row is the last one that its reference names
abbrev pub source_of_pending : Known → ℕ → Option Source
source_of_pending known at =
    option_map (source_of_provider known)
    (option_and_then (λ pending. last_provider pending.entry.provider (rows_of known.run)) (pending_at known at))

-- the source of a goal's operations: the goal of its provider
abbrev pub source_of_goal : Known → ℕ → Option Source
source_of_goal known goal = option_map source.Goal (option_and_then (λ one. one.provider) (goal_at known goal))
