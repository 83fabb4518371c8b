-- What is decided at last: by the table, then by what the rows of the claim's chain say, then by the limits.
use Rattle.std.specs.Prelude.{ℕ, Bool, true, false, not, ◌&&◌, ◌||◌, if◌then◌else◌, find, option_map, Option, None, Some, List}
use Rattle.std.specs.Option.{option_or}
use Rattle.pl_value.specs.declared.value.Value.{Value}
use Rattle.pl_lemmas.specs.Words.{some_passes}
use Rattle.pl_state.specs.Chain.{first_protected}
use Rattle.pl_state.specs.declared.entry.Entry.{Entry}
use Rattle.pl_state.specs.declared.goal.Diffed.{Diffed}
use Rattle.pl_state.specs.declared.goal.Goal.{Goal}
use Rattle.pl_decide.specs.Permits.{permits_chained, permits_replaced, permits_step}
use Rattle.pl_decide.specs.Table.{decide}
use Rattle.pl_decide.specs.declared.decision.Decision.{Decision}
use Rattle.pl_decide.specs.declared.decision.Decision.TheVariants.{Refused, Replace}
use Rattle.pl_decide.specs.declared.decision.ProviderChange.{ProviderChange}
use Rattle.pl_decide.specs.declared.limits.Limits.{Limits}
use Rattle.pl_decide.specs.declared.problem.Problem.{Problem}
use Rattle.pl_decide.specs.declared.problem.Problem.TheVariants.{NotPermitted, Protected}

-- whether the old thing is deleted before the new one is made
abbrev pub is_delete_first : Decision → Bool
is_delete_first (Replace first) = not first
is_delete_first _ = false

-- whether the new thing is made before the old one is deleted
abbrev pub is_create_first : Decision → Bool
is_create_first (Replace first) = first
is_create_first _ = false

-- whether a new thing is made in place of the old one
abbrev pub is_replacement : Decision → Bool
is_replacement decision = is_delete_first decision || is_create_first decision

-- whether nothing is done, because of a problem
abbrev pub is_refused : Decision → Bool
is_refused (Refused problem) = true
is_refused _ = false

-- a decision, or its refusal where there is one
abbrev pub refused_by : Option Problem → Decision → Decision
refused_by None decision = decision
refused_by (Some problem) decision = Refused problem

-- whether the limits let the claim's old thing go
abbrev pub permits_claim : Limits → Option Entry → Bool
permits_claim limits claim = some_passes (λ row. permits_replaced limits row.urn) claim

-- the refusal by the limits, the claim's chain aside: the goal's URN, or the claim's where its old thing alone may
-- not go
abbrev pub own_refusal : Limits → Option Entry → Goal → Decision → Option Problem
own_refusal limits claim goal decision =
    if not (permits_step limits goal decision) then Some (NotPermitted goal.urn)
    else (if is_replacement decision && not (permits_claim limits claim)
    then option_map (λ row. NotPermitted row.urn) claim else None)

-- a decision by the table after what the limits say to it; one to delete first is left as it is, since its chain is
-- asked before the limits
abbrev pub limited : Limits → Option Entry → Goal → Decision → Decision
limited limits claim goal decision =
    if is_delete_first decision then decision else refused_by (own_refusal limits claim goal decision) decision

-- the same of what the table decides
abbrev pub decide_limited :
    Option Entry → Goal → ProviderChange → List (List ℕ × Value) → Option Diffed → Limits → Decision
decide_limited claim goal change checked diff limits = limited limits claim goal (decide claim goal change checked diff)

-- the first of a chain's rows that the limits do not let go; which rows are claimed is told by a test
abbrev pub first_unpermitted : Limits → (ℕ → Bool) → List (ℕ × Entry) → Option Entry
first_unpermitted limits claims chain =
    option_map (λ row. row.1)
    (find (λ row. not (permits_chained limits (claims row.0) row.1.doomed row.1.urn)) chain)

-- the refusal of a decision to delete first: by the first protected row of the chain, then by the limits
abbrev pub first_refusal :
    Limits → Option Entry → Goal → (ℕ → Bool) → List (ℕ × Entry) → Decision → Option Problem
first_refusal limits claim goal claims chain decision =
    option_or (option_map (λ row. Protected row.urn) (first_protected claims chain))
    (option_or (own_refusal limits claim goal decision)
    (option_map (λ row. NotPermitted row.urn) (first_unpermitted limits claims chain)))

-- what is decided at last, over the rows of the claim's chain
abbrev pub final_decision :
    Limits → Option Entry → Goal → (ℕ → Bool) → List (ℕ × Entry) → Decision → Decision
final_decision limits claim goal claims chain decision =
    if is_delete_first decision then refused_by (first_refusal limits claim goal claims chain decision) decision
    else limited limits claim goal decision
