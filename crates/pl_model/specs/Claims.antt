-- Goals by their numbers, and the rows of the state at the start that they claim.
use Rattle.std.specs.Prelude.{ℕ, ◌==◌, Bool, false, not, ◌&&◌, if◌then◌else◌, Option, None, Some, List, [], ◌∷◌, length, find, option_map, option_and_then, slice_get, bytes_eq}
use Rattle.std.specs.Bool.{beq}
use Rattle.std.specs.List.{list_any, enumerate_from}
use Rattle.std.specs.Option.{option_or}
use Rattle.pl_urn.specs.Grammar.{is_empty, is_colon}
use Rattle.pl_urn.specs.Cut.{has_cut}
use Rattle.pl_options.specs.Names.{id_text}
use Rattle.pl_state.specs.Chain.{chain_of}
use Rattle.pl_state.specs.Kinds.{is_provider_goal, is_provider_row}
use Rattle.pl_state.specs.References.{has_urn}
use Rattle.pl_state.specs.declared.entry.Entry.{Entry}
use Rattle.pl_state.specs.declared.goal.Goal.{Goal}
use Rattle.pl_decide.specs.Limited.{is_delete_first}
use Rattle.pl_model.specs.declared.decided.Decided.{Decided}
use Rattle.pl_model.specs.declared.fixed.Fixed.{Fixed}
use Rattle.pl_model.specs.Run.{rows_of}
use Rattle.pl_lemmas.specs.Words.{first_some, has_number, is_row, number_where}

-- the number of the goal with this URN; goals and what is decided of them stand newest first, and a goal's number is
-- the count of the goals before it
abbrev pub goal_number : List Goal → List ℕ → Option ℕ
goal_number goals urn = number_where (λ goal. bytes_eq goal.urn urn) goals

-- the chain of a claim, if there is one
abbrev pub chain_of_claim : Fixed → Option ℕ → List ℕ
chain_of_claim run None = []
chain_of_claim run (Some row) = chain_of (rows_of run) row

-- the chain of a goal: that of its claim, where it is deleted first
abbrev pub chain_of_goal : Fixed → Decided → List ℕ
chain_of_goal run decided = if is_delete_first decided.decision then chain_of_claim run decided.claim else []

-- whether one of the decided goals claims the row
abbrev pub is_claimed : List Decided → ℕ → Bool
is_claimed decided row = list_any (λ one. is_row one.claim row) decided

-- whether the row is in the chain of one of the decided goals
abbrev pub is_chained : Fixed → List Decided → ℕ → Bool
is_chained run decided row = list_any (λ one. has_number (chain_of_goal run one) row) decided

-- whether a goal may claim a row by a URN: the row is not to be deleted, no earlier goal claims it or has it
-- in its chain, and a provider claims providers alone, which no other goal claims
abbrev pub may_claim : Fixed → List Decided → Goal → List ℕ → ℕ × Entry → Bool
may_claim run before goal urn numbered_row =
    not numbered_row.1.doomed && has_urn urn numbered_row.1
    && beq (is_provider_goal goal) (is_provider_row numbered_row.1)
    && not (is_claimed before numbered_row.0) && not (is_chained run before numbered_row.0)

abbrev pub claim_by : Fixed → List Decided → Goal → List ℕ → Option ℕ
claim_by run before goal urn =
    option_map (λ found. found.0) (find (may_claim run before goal urn) (enumerate_from 0 (rows_of run)))

-- the row that a goal claims, after what is decided of the goals before it: by its URN, then by its aliases in
-- order
abbrev pub claim_for : Fixed → List Decided → Goal → Option ℕ
claim_for run before goal = first_some (claim_by run before goal) (goal.urn ∷ goal.aliases)

-- the row of a claim
abbrev pub claimed_row : Fixed → Option ℕ → Option Entry
claimed_row run claim = option_and_then (λ row. slice_get (rows_of run) row) claim

-- the goal that claims a row, by its number
abbrev pub claimer_of : List Decided → ℕ → Option ℕ
claimer_of decided row = number_where (λ one. is_row one.claim row) decided

-- whether an id begins with `:`
abbrev pub begins_with_colon : List ℕ → Bool
begins_with_colon [] = false
begins_with_colon (first ∷ others) = is_colon first

-- whether a reference can name an id: it is not empty, holds no `::` and does not begin with `:`
abbrev pub is_usable : List ℕ → Bool
is_usable id = not (is_empty id) && not (has_cut id) && not (begins_with_colon id)

abbrev pub usable_id : Option (List ℕ) → Option (List ℕ)
usable_id None = None
usable_id (Some id) = if is_usable id then Some id else None

abbrev pub id_of_row : Option Entry → Option (List ℕ)
id_of_row row = option_and_then (λ entry. entry.id) row

-- a provider's id: its claim's if that is usable, or else the one made of the number that its keep carries
abbrev pub kept_provider_id : Option Entry → Option ℕ → Option (List ℕ)
kept_provider_id claim fresh = option_or (usable_id (id_of_row claim)) (option_map id_text fresh)
