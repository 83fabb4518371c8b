-- What the chain of a goal's claim says to its deletion.
use Rattle.std.specs.Prelude.{◌≡◌, ℕ, List, [], Option, Some, if◌then◌else◌, option_map}
use Rattle.std.specs.Option.{option_or}
use Rattle.pl_chain.specs.declared.fault.ChainFault.{ChainFault}
use Rattle.pl_chain.specs.declared.fault.ChainFault.TheVariants.{Protected, OutOfMemory}
use Rattle.pl_decide.specs.Limited.{first_refusal, first_unpermitted, is_delete_first, own_refusal}
use Rattle.pl_decide.specs.declared.decision.Decision.{Decision}
use Rattle.pl_decide.specs.declared.problem.Problem.{Problem}
use Rattle.pl_decide.specs.declared.problem.Problem.TheVariants.{NotPermitted}
use Rattle.pl_state.specs.Chain.{first_protected}
use Rattle.pl_state.specs.declared.entry.Entry.{Entry}
use Rattle.pl_model.specs.Claims.{chain_of_claim}
use Rattle.pl_model.specs.Decisions.{Turn, chain_at, claim_at, claims_at}

-- the first row of the chain that is protected and goes along
abbrev pub protected_at : Turn → Option Entry
protected_at turn = first_protected (claims_at turn) (chain_at turn)

-- an answer tells the URN of that row, or that memory was wanting
abbrev pub TellsProtectedAt : Turn → ChainFault → Type 0
TellsProtectedAt turn (Protected urn) = option_map (λ row. row.urn) (protected_at turn) ≡ Some urn
TellsProtectedAt turn OutOfMemory = Unit {0}

-- the refusal by the limits of what is deleted first: that of the goal and its claim, then that of a row of a chain
abbrev pub limits_refusal : Turn → List (ℕ × Entry) → Decision → Option Problem
limits_refusal turn chain decision =
    option_or (own_refusal turn.run.limits (claim_at turn) turn.goal decision)
    (option_map (λ row. NotPermitted row.urn) (first_unpermitted turn.run.limits (claims_at turn) chain))

-- the refusal of what is deleted first
abbrev pub refusal_at : Turn → Decision → Option Problem
refusal_at turn decision = first_refusal turn.run.limits (claim_at turn) turn.goal (claims_at turn) (chain_at turn) decision

-- the rows that go along with the claim by a decision
abbrev pub chain_by : Turn → Decision → List ℕ
chain_by turn decision = if is_delete_first decision then chain_of_claim turn.run turn.claim else []
