-- What the columns tell of a decided goal: the row that it claims, and the id of a provider.
use Rattle.std.proofs.Common.{◌≡◌, ℕ, ◌==◌, ◌<◌, Bool, true, false, if◌then◌else◌, List, [], ◌∷◌, length, Option, Some, None, refl, ◌∙◌, ap, subst, arith, option_and_then}
use Rattle.std.proofs.lemmas.Bool.Decides.{nat_tests}
use Rattle.std.specs.Option.{option_or}
use Rattle.pl_columns.specs.declared.columns.Columns.{Columns}
use Rattle.pl_columns.specs.Read.{history_by, known_by, summary_by}
use Rattle.pl_lemmas.proofs.Numbers.{equal_numbers}
use Rattle.pl_lemmas.proofs.Numbered.{numbered_below}
use Rattle.pl_lemmas.proofs.Options.{or_none}
use Rattle.pl_lemmas.specs.Words.{has_number, only_if}
use Rattle.pl_model.specs.Claims.{claimed_row}
use Rattle.pl_model.specs.Decisions.{Turn, number_at, turn_in, turn_of}
use Rattle.pl_model.specs.Known.{Known, claim_of, claim_row, decided_goal, next_turn, turn_of_goal}
use Rattle.pl_model.specs.Recording.{fresh_of}
use Rattle.pl_model.specs.declared.decided.Decided.{Decided}
use Rattle.pl_model.specs.declared.errand.Closed.{Closed}
use Rattle.pl_model.specs.declared.fixed.Fixed.{Fixed}
use Rattle.pl_model_step.proofs.PlainTickets.{plain_fresh}
use Rattle.pl_records.specs.Columns.{fresh_in}
use Rattle.pl_state.specs.declared.goal.Goal.{Goal}

-- ---- claims

-- the first goal without a decision has the count of the decisions for its number
turn_number : (run : Fixed) (answers : List Closed) (goals : List Goal) (decided : List Decided) (turn : Turn)
    → turn_in run answers goals decided ≡ Some turn → number_at turn ≡ length decided
turn_number run answers [] decided turn h = absurd (let e : None ≡ Some turn = h in cc)
turn_number run answers (goal ∷ earlier) decided turn h =
    by (length earlier == length decided) refl (turn_number run answers earlier decided turn) h
  where
    by : (b : Bool) → (length earlier == length decided) ≡ b
        → (turn_in run answers earlier decided ≡ Some turn → number_at turn ≡ length decided)
        → (if b then Some (turn_of run answers earlier decided goal) else turn_in run answers earlier decided) ≡ Some turn
        → number_at turn ≡ length decided
    by true is rest h =
        let same : turn_of run answers earlier decided goal ≡ turn = cc in
        subst (λ (it : Turn). number_at it ≡ length decided) same (equal_numbers (length earlier) (length decided) is)
    by false is rest h = rest h

-- a decided goal is not the first without a decision
no_turn : (known : Known) (number : ℕ) (one : Decided) → decided_goal known number ≡ Some one → turn_of_goal known number ≡ None
no_turn known number one h = by (next_turn known) refl
  where
    by : (o : Option Turn) → next_turn known ≡ o
        → option_and_then (λ (turn : Turn). if number_at turn == number then Some turn else None) o ≡ None
    by None is = refl
    by (Some turn) is =
        let full : number_at turn ≡ length known.decided = turn_number known.run known.answers known.goals known.decided turn is in
        let below : number < length known.decided = numbered_below known.decided number one h in
        let apart : (number_at turn == number) ≡ false = grind (arith, nat_tests) in
        ap (λ (b : Bool). if b then Some turn else None) apart

-- the claim of a decided goal is the one that its decision has
claim_decided : (known : Known) (number : ℕ) (one : Decided) → decided_goal known number ≡ Some one → claim_of known number ≡ one.claim
claim_decided known number one h =
    ap (λ (decided : Option Decided). option_or (option_and_then (λ (it : Decided). it.claim) decided)
    (option_and_then (λ (turn : Turn). turn.claim) (turn_of_goal known number))) h
    ∙ ap (λ (turn : Option Turn). option_or one.claim (option_and_then (λ (it : Turn). it.claim) turn)) (no_turn known number one h)
    ∙ or_none one.claim

-- and the row that it claims is that of this claim
pub row_decided : (known : Known) (number : ℕ) (one : Decided) → decided_goal known number ≡ Some one → claim_row known number ≡ claimed_row known.run one.claim
row_decided known number one h = ap (λ (claim : Option ℕ). claimed_row known.run claim) (claim_decided known number one h)

-- ---- ids

chosen : (b : Bool) (o : Option ℕ) → (if b then o else None) ≡ only_if b o
chosen true o = refl
chosen false o = refl

-- the number that the id of a goal is made of, as the columns have it
pub fresh_read : (columns : Columns) (goal : ℕ)
    → fresh_of (known_by columns).history goal ≡ only_if (has_number columns.records.records.recorded goal) (fresh_in columns.records.records.kept goal)
unfolding history_by
fresh_read columns goal =
    plain_fresh (summary_by columns) goal
    ∙ chosen (has_number columns.records.records.recorded goal) (fresh_in columns.records.records.kept goal)
