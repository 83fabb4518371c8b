-- What is decided of each goal: its inputs, its checked inputs, its diff, its decision. All of it follows from
-- the goals in their order and from the replies that came, so that what is decided once stays.
use Rattle.std.specs.Prelude.{ℕ, ◌==◌, Bool, true, false, not, ◌&&◌, ◌||◌, if◌then◌else◌, Option, None, Some, List, [], ◌∷◌, length, option_map, option_and_then, slice_get, bytes_eq}
use Rattle.std.specs.List.{cons_option}
use Rattle.std.specs.Option.{option_or}
use Rattle.pl_value.specs.Inside.{any_field_unknown}
use Rattle.pl_options.specs.Ignored.{with_ignored}
use Rattle.pl_lemmas.specs.Words.{is_row, numbered, some_passes}
use Rattle.pl_state.specs.Chain.{provider_row_of, rows_at}
use Rattle.pl_state.specs.Kinds.{is_provider_goal, is_provided, is_reading_goal, is_of_default, kin_of}
use Rattle.pl_state.specs.declared.entry.Entry.{Entry}
use Rattle.pl_state.specs.declared.goal.Goal.{Goal}
use Rattle.pl_state.specs.declared.goal.Diffed.{Diffed}
use Rattle.pl_state.specs.declared.goal.Changes.TheVariants.{SomeChange}
use Rattle.pl_events.specs.declared.operation.Op.TheVariants as op
use Rattle.pl_events.specs.declared.operation.Subject.TheVariants as subject
use Rattle.pl_events.specs.declared.reply.Reply.{Reply}
use Rattle.pl_events.specs.declared.reply.Reply.TheVariants as reply
use Rattle.pl_decide.specs.declared.decision.Decision.{Decision}
use Rattle.pl_decide.specs.declared.decision.ProviderChange.{ProviderChange}
use Rattle.pl_decide.specs.declared.decision.ProviderChange.TheVariants.{Same, BothDefault, Other}
use Rattle.pl_decide.specs.Limited.{final_decision}
use Rattle.pl_decide.specs.Table.{decide, needs_diff}
use Rattle.pl_decide.specs.Permits.{is_wanted}
use Rattle.pl_model.specs.declared.decided.Decided.{Decided}
use Rattle.pl_model.specs.declared.errand.Closed.{Closed}
use Rattle.pl_model.specs.declared.fixed.Fixed.{Fixed}
use Rattle.pl_model.specs.Run.{Pairs, rows_of, is_preview}
use Rattle.pl_model.specs.Tickets.{reply_to}
use Rattle.pl_model.specs.Claims.{claim_for, claimed_row, claimer_of, chain_of_claim, is_claimed}

-- a goal at its turn: the run and the replies that came, the goals before it with what is decided of them, the
-- goal and the row that it claims
pub record Turn : Type 0 where
  pub run : Fixed
  pub answers : List Closed
  pub earlier : List Goal
  pub before : List Decided
  pub goal : Goal
  pub claim : Option ℕ

abbrev pub number_at : Turn → ℕ
number_at turn = length turn.earlier

abbrev pub claim_at : Turn → Option Entry
claim_at turn = claimed_row turn.run turn.claim

-- the claim, where it is not external
abbrev pub kin_at : Turn → Option Entry
kin_at turn = kin_of (claim_at turn)

-- ---- inputs

-- the goal's inputs over those of its kin: what the goal ignores is as the kin has it, and all of it where the
-- goal is not to be changed
abbrev pub inputs_over : Turn → Option Entry → Pairs
inputs_over turn None = turn.goal.inputs
inputs_over turn (Some kin) =
    if is_wanted turn.run.limits turn.goal.urn then with_ignored turn.goal kin.inputs else kin.inputs

abbrev pub inputs_at : Turn → Pairs
inputs_at turn = inputs_over turn (kin_at turn)

-- ---- checked inputs

-- whether the checked inputs of a provider, by its number, hold an unknown
abbrev pub has_unknown_inputs : List Decided → Option ℕ → Bool
has_unknown_inputs decided provider =
    some_passes (λ number. some_passes (λ one. any_field_unknown one.checked) (numbered decided number)) provider

-- in a preview, whether the goal's provider has inputs that are not known
abbrev pub is_provider_unknown : Turn → Bool
is_provider_unknown turn = is_preview turn.run.mode && has_unknown_inputs turn.before turn.goal.provider

-- whether a provider checks the goal's inputs: not those of a component or of a goal that reads, nor where the
-- provider is not known
abbrev pub needs_check : Turn → Bool
needs_check turn =
    is_provided turn.goal && not (is_reading_goal turn.goal) && not (is_provider_unknown turn)

abbrev pub checked_in : Option Reply → Option Pairs
checked_in (Some (reply.Checked fields)) = Some fields
checked_in _ = None

-- the checked inputs, once they are known
abbrev pub checked_at : Turn → Option Pairs
checked_at turn =
    if is_provider_goal turn.goal
    then checked_in (reply_to turn.answers (op.CheckConfig (subject.Goal (number_at turn))))
    else (if needs_check turn then checked_in (reply_to turn.answers (op.Check (subject.Goal (number_at turn))))
    else Some (inputs_at turn))

-- ---- the diff

-- the URN of the provider of a row: that of the goal that claims the provider's row, or else the one of the row
abbrev pub row_provider_urn : Turn → ℕ → Option (List ℕ)
row_provider_urn turn row =
    option_or
    (option_map (λ goal. goal.urn) (option_and_then (λ number. numbered turn.earlier number)
    (claimer_of turn.before row)))
    (option_map (λ entry. entry.urn) (slice_get (rows_of turn.run) row))

abbrev pub claim_provider_urn : Turn → Option (List ℕ)
claim_provider_urn turn =
    option_and_then (row_provider_urn turn) (option_and_then (provider_row_of (rows_of turn.run)) turn.claim)

abbrev pub goal_provider_urn : Turn → Option (List ℕ)
goal_provider_urn turn =
    option_map (λ goal. goal.urn) (option_and_then (λ number. numbered turn.earlier number) turn.goal.provider)

abbrev pub same_text : Option (List ℕ) → Option (List ℕ) → Bool
same_text None None = true
same_text (Some a) (Some b) = bytes_eq a b
same_text _ _ = false

-- none counts as a default provider
abbrev pub is_default_or_none : Option (List ℕ) → Bool
is_default_or_none None = true
is_default_or_none (Some urn) = is_of_default urn

abbrev pub change_between : Option (List ℕ) → Option (List ℕ) → ProviderChange
change_between old new =
    if same_text old new then Same
    else (if is_default_or_none old && is_default_or_none new then BothDefault else Other)

-- how the goal's provider stands to that of its claim
abbrev pub change_at : Turn → ProviderChange
change_at turn = change_between (claim_provider_urn turn) (goal_provider_urn turn)

-- whether the decision waits for a diff
abbrev pub wants_diff : Turn → Bool
wants_diff turn = needs_diff (claim_at turn) turn.goal (change_at turn)

-- what counts as the diff where the provider is not known: some change, without a replacement
abbrev pub unknown_diff : Diffed
unknown_diff = record { changes = SomeChange; replaces = []; delete_before_replace = false }

abbrev pub diffed_in : Option Reply → Option Diffed
diffed_in (Some (reply.Diffed diff)) = Some diff
diffed_in _ = None

-- the diff, once it is known: none where none is wanted
abbrev pub diff_at : Turn → Option (Option Diffed)
diff_at turn =
    if not (wants_diff turn) then Some None
    else (if is_provider_unknown turn then Some (Some unknown_diff)
    else option_map Some (diffed_in (reply_to turn.answers (op.Diff (subject.Goal (number_at turn))))))

-- ---- the decision

-- whether a goal before this one, or this one, claims the row
abbrev pub claims_at : Turn → ℕ → Bool
claims_at turn row = is_claimed turn.before row || is_row turn.claim row

-- the rows of the claim's chain
abbrev pub chain_at : Turn → List (ℕ × Entry)
chain_at turn = rows_at (rows_of turn.run) (chain_of_claim turn.run turn.claim)

-- what the table decides, after what the chain and then the limits say to it
abbrev pub decision_at : Turn → Pairs → Option Diffed → Decision
decision_at turn checked diff =
    final_decision turn.run.limits (claim_at turn) turn.goal (claims_at turn) (chain_at turn)
    (decide (claim_at turn) turn.goal (change_at turn) checked diff)

abbrev pub decided_by : Turn → Pairs → Option Diffed → Decided
decided_by turn checked diff = record {
  claim = turn.claim;
  inputs = inputs_at turn;
  checked = checked;
  decision = decision_at turn checked diff;
}

-- what is decided of a goal at its turn, once its check and its diff have come
abbrev pub decided_at : Turn → Option Decided
decided_at turn =
    option_and_then (λ checked. option_map (decided_by turn checked) (diff_at turn)) (checked_at turn)

-- the turn of a goal after those before it
abbrev pub turn_of : Fixed → List Closed → List Goal → List Decided → Goal → Turn
turn_of run answers earlier before goal = record {
  run = run;
  answers = answers;
  earlier = earlier;
  before = before;
  goal = goal;
  claim = claim_for run before goal;
}

-- what is decided of a goal, if everything is decided of those before it
abbrev pub decided_next : Fixed → List Closed → List Goal → List Decided → Goal → Option Decided
decided_next run answers earlier before goal =
    if length before == length earlier then decided_at (turn_of run answers earlier before goal) else None

abbrev pub decided_after : Fixed → List Closed → Goal → List Goal → List Decided → List Decided
decided_after run answers goal earlier before =
    cons_option (decided_next run answers earlier before goal) before

-- what is decided, newest first: one goal after another, in the order of their registration
abbrev pub decided_of : Fixed → List Closed → List Goal → List Decided
decided_of run answers [] = []
decided_of run answers (goal ∷ earlier) =
    decided_after run answers goal earlier (decided_of run answers earlier)

-- the turn of the first goal that is not decided, if there is one
abbrev pub turn_in : Fixed → List Closed → List Goal → List Decided → Option Turn
turn_in run answers [] decided = None
turn_in run answers (goal ∷ earlier) decided =
    if length earlier == length decided then Some (turn_of run answers earlier decided goal)
    else turn_in run answers earlier decided
