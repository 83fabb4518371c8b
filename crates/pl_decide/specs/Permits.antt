-- What a run's limits permit. With no limit everything is permitted.
use Rattle.std.specs.Prelude.{ℕ, Bool, true, false, not, ◌&&◌, ◌||◌, if◌then◌else◌, Option, None, Some, List, [], codes, bytes_eq}
use Rattle.std.specs.List.{list_any}
use Rattle.pl_state.specs.Kinds.{is_component, is_of_default}
use Rattle.pl_state.specs.declared.goal.Goal.{Goal}
use Rattle.pl_decide.specs.declared.decision.Decision.{Decision}
use Rattle.pl_decide.specs.declared.decision.Decision.TheVariants.{Keep, Create, Update, Replace, Import, ReadOnly, Refused}
use Rattle.pl_decide.specs.declared.limits.Limits.{Limits}

-- the name of a decision's step; a creation has another name where it replaces what was deleted first. A
-- refusal has none
abbrev pub step_name : Bool → Decision → List ℕ
step_name replaces Keep = codes "same"
step_name replaces Create = if replaces then codes "create-replacement" else codes "create"
step_name replaces Update = codes "update"
step_name replaces (Replace first) = codes "create-replacement"
step_name replaces Import = codes "import"
step_name replaces ReadOnly = codes "read"
step_name replaces (Refused problem) = []

-- the name of the step that deletes a row
abbrev pub delete_step : List ℕ
delete_step = codes "delete"

-- the name of the step that deletes a row which was replaced or taken by a chain
abbrev pub delete_replaced_step : List ℕ
delete_replaced_step = codes "delete-replaced"

-- what a limit says, and yes where it is left out
abbrev pub where_limited : {X : Type 0} → (X → Bool) → Option X → Bool
where_limited says None = true
where_limited says (Some limit) = says limit

-- whether a URN stands in a list
abbrev pub has_urn_in : List ℕ → List (List ℕ) → Bool
has_urn_in urn urns = list_any (λ named. bytes_eq named urn) urns

-- whether a plan has this step of this resource
abbrev pub has_line : List ℕ → List ℕ → List (List ℕ × List ℕ) → Bool
has_line urn step lines = list_any (λ line. bytes_eq line.0 urn && bytes_eq line.1 step) lines

-- whether a resource is among those that may be changed
abbrev pub is_wanted : Limits → List ℕ → Bool
is_wanted limits urn = where_limited (has_urn_in urn) limits.only

-- whether the plan has this step of this resource, or there is no plan
abbrev pub is_planned : Limits → List ℕ → List ℕ → Bool
is_planned limits urn step = where_limited (has_line urn step) limits.plan

-- whether a decision is permitted under every limit: it changes nothing, or it is refused anyway
abbrev pub is_free : Decision → Bool
is_free Keep = true
is_free ReadOnly = true
is_free (Refused problem) = true
is_free _ = false

-- whether the resources that may be changed leave a goal alone: components and default providers
abbrev pub is_always_wanted : Goal → Bool
is_always_wanted goal = is_component goal || is_of_default goal.urn

-- whether the plan has a decision's step, under either name of a creation
abbrev pub step_is_planned : Limits → List ℕ → Decision → Bool
step_is_planned limits urn decision =
    is_planned limits urn (step_name false decision) || is_planned limits urn (step_name true decision)

-- whether a decision on a goal is permitted, what its rows say aside
abbrev pub permits_step : Limits → Goal → Decision → Bool
permits_step limits goal decision =
    is_free decision
    || ((is_always_wanted goal || is_wanted limits goal.urn) && step_is_planned limits goal.urn decision)

-- whether the replacement of a claim with this URN is permitted
abbrev pub permits_replaced : Limits → List ℕ → Bool
permits_replaced limits urn = is_planned limits urn delete_replaced_step

-- whether a row of the chain of a claim that is deleted first may be taken along: a row that no goal claims
-- is to be wanted, and one that no goal claims or that is to be deleted is to be planned
abbrev pub permits_chained : Limits → Bool → Bool → List ℕ → Bool
permits_chained limits claimed doomed urn =
    (claimed || is_wanted limits urn)
    && ((claimed && not doomed) || is_planned limits urn delete_replaced_step)

-- whether a row that is left at the end may be deleted: the URN that its goal gave it is to be wanted, and
-- its URN in the base planned
abbrev pub permits_left : Limits → List ℕ → List ℕ → Bool
permits_left limits turned urn =
    is_wanted limits turned && (is_planned limits urn delete_step || is_planned limits urn delete_replaced_step)
