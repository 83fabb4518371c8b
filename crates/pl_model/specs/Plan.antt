-- The plan of a history: a step for each goal, and one for each row that is to be deleted.
use Rattle.std.specs.Prelude.{ℕ, Bool, not, ◌&&◌, ◌||◌, if◌then◌else◌, Option, None, Some, List, ◌∷◌, ◌++◌, ◌-◌, drop, length, reverse, option_and_then}
use Rattle.std.specs.List.{filter_map, list_any}
use Rattle.pl_lemmas.specs.Words.{some_passes}
use Rattle.pl_state.specs.Chain.{goes_along}
use Rattle.pl_state.specs.References.{has_urn}
use Rattle.pl_state.specs.declared.entry.Entry.{Entry}
use Rattle.pl_state.specs.declared.goal.Goal.{Goal}
use Rattle.pl_events.specs.declared.event.Event.{Event}
use Rattle.pl_decide.specs.Permits.{delete_replaced_step, delete_step, step_name}
use Rattle.pl_model.specs.declared.decided.Decided.{Decided}
use Rattle.pl_model.specs.declared.fixed.Fixed.{Fixed}
use Rattle.pl_model.specs.Claims.{claimed_row, claimer_of, is_chained, is_claimed}
use Rattle.pl_decide.specs.Limited.{is_refused, is_replacement}
use Rattle.pl_model.specs.Due.{goal_numbers}
use Rattle.pl_model.specs.History.{known_of}
use Rattle.pl_model.specs.Known.{Known, decided_goal, goal_at}
use Rattle.pl_model.specs.Rows.{row_at, row_numbers}

-- a step of a plan: the URN of its resource and its name
abbrev pub Step : Type 0
Step = List ℕ × List ℕ

-- what is decided of the goals before a goal
abbrev pub decided_before : Known → ℕ → List Decided
decided_before known number = drop (length known.decided - number) known.decided

-- whether a row is one of the goal's URNs and is not to be deleted
abbrev pub is_of_goal : Goal → Entry → Bool
is_of_goal goal entry = not entry.doomed && list_any (λ urn. has_urn urn entry) (goal.urn ∷ goal.aliases)

-- whether a row of one of the goal's URNs was taken by an earlier goal's chain, and by no earlier goal's claim
abbrev pub was_taken : Known → ℕ → Goal → Bool
was_taken known number goal =
    list_any (λ row. is_chained known.run (decided_before known number) row
    && not (is_claimed (decided_before known number) row) && some_passes (is_of_goal goal) (row_at known row))
    (row_numbers known)

-- whether a creation replaces what was deleted first: in this run, or in an earlier one that did not get to it
abbrev pub replaces_deleted : Known → ℕ → Goal → Decided → Bool
replaces_deleted known number goal one =
    was_taken known number goal || some_passes (λ row. row.pending_replacement) (claimed_row known.run one.claim)

abbrev pub goal_step : Known → ℕ → Goal → Decided → Option Step
goal_step known number goal one =
    if is_refused one.decision then None
    else Some (goal.urn, step_name (replaces_deleted known number goal one) one.decision)

-- the step of a goal, once it is decided and not refused
abbrev pub step_of_goal : Known → ℕ → Option Step
step_of_goal known number =
    option_and_then (λ goal. option_and_then (goal_step known number goal) (decided_goal known number)) (goal_at known number)

-- whether a row is the claim of a goal that is replaced
abbrev pub is_to_be_replaced : Known → ℕ → Bool
is_to_be_replaced known row =
    some_passes (λ one. is_replacement one.decision) (option_and_then (decided_goal known) (claimer_of known.decided row))

-- whether a row is to be deleted: it is marked, nobody claims it, or its goal is replaced
abbrev pub is_to_be_deleted : Known → ℕ → Entry → Bool
is_to_be_deleted known row entry =
    goes_along (is_claimed known.decided) (row, entry) || is_to_be_replaced known row

-- the name of a row's step: a row that was marked, replaced or taken by a chain has another than one that is only
-- no longer wanted
abbrev pub row_step_name : Known → ℕ → Entry → List ℕ
row_step_name known row entry =
    if entry.doomed || is_to_be_replaced known row || is_chained known.run known.decided row
    then delete_replaced_step else delete_step

abbrev pub row_step : Known → ℕ → Entry → Option Step
row_step known row entry =
    if is_to_be_deleted known row entry then Some (entry.urn, row_step_name known row entry) else None

abbrev pub step_of_row : Known → ℕ → Option Step
step_of_row known row = option_and_then (row_step known row) (row_at known row)

abbrev pub plan_by : Known → List Step
plan_by known =
    filter_map (step_of_goal known) (goal_numbers known) ++ filter_map (step_of_row known) (reverse (row_numbers known))

-- the plan: the step of each goal in order, then that of each row that is to be deleted, the last one first
abbrev pub plan_of : Fixed → List Event → List Step
plan_of run history = plan_by (known_of run history)
