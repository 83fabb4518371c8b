-- In an orderly history recorded goals claim rows that were to stay, each its own.
use Rattle.std.proofs.Common.{◌≡◌, ◌<◌, ℕ, Bool, true, false, ◌==◌, if◌then◌else◌, nat_lt, List, ◌∷◌, length, Option, Some, refl, sym, ap, subst, ◌∙◌, arith, slice_get}
use Rattle.std.proofs.lemmas.Bool.Decides.{nat_tests}
use Rattle.pl_events.specs.declared.event.Event.{Event}
use Rattle.pl_lemmas.specs.Words.{has_number, is_row, numbered, some_passes}
use Rattle.pl_lemmas.proofs.Lists.{numbered_passes}
use Rattle.pl_lemmas.proofs.Numbers.{same_number}
use Rattle.pl_lemmas.proofs.Options.{some_there}
use Rattle.pl_state.specs.declared.entry.Entry.{Entry}
use Rattle.pl_model.specs.declared.decided.Decided.{Decided}
use Rattle.pl_model.specs.declared.fixed.Fixed.{Fixed}
use Rattle.pl_model.specs.Claims.{claimer_of, is_claimed}
use Rattle.pl_model.specs.History.{known_of}
use Rattle.pl_model.specs.Known.{Known, claim_of, decided_goal, is_recorded}
use Rattle.pl_model.specs.Legal.{IsOrderly}
use Rattle.pl_model.specs.Rows.{row_at}
use Rattle.pl_model.specs.Run.{rows_of}
use Rattle.pl_claims.proofs.Seen.{claimed_by_one}
use Rattle.pl_model_stays.proofs.Goals.Claiming.{claims-allowed, numbered_behind, was-made, where_found}
use Rattle.pl_model_stays.proofs.Goals.Recorded.{recorded-held}
use Rattle.pl_model_stays.proofs.Goals.Standing.{claim-of-decided}
use Rattle.pl_model_stays.proofs.Lists.Growing.{other_numbers, run_of}
use Rattle.pl_columns.specs.Read.{history_by, known_by}
use Rattle.pl_columns.specs.declared.columns.Columns.{Columns}
use Rattle.pl_columns.proofs.Read.{recorded_read}
use Rattle.pl_ready.specs.Keepers.{AreKeepers, ColumnsKeep, TellsClaims}

-- numbers of which neither is below the other are the same
one_number : (a b : ℕ) → (a < b → ⊥) → (b < a → ⊥) → a ≡ b
one_number a b first second = by (nat_lt a b) refl (nat_lt b a) refl
  where
    by : (c : Bool) → nat_lt a b ≡ c → (d : Bool) → nat_lt b a ≡ d → a ≡ b
    by true is d at = absurd (first (grind (arith, nat_tests)))
    by false is true at = absurd (second (grind (arith, nat_tests)))
    by false is false at = grind (arith, nat_tests)

module _ (run : Fixed) (history : List Event) where
  abbrev known : Known
  known = known_of run history

  -- no goal claims a row that an earlier one claims
  never_again : (row earlier later : ℕ) (one other : Decided) → decided_goal known earlier ≡ Some one → decided_goal known later ≡ Some other
      → is_row one.claim row ≡ true → is_row other.claim row ≡ true → earlier < later → ⊥
  never_again row earlier later one other first second claims too less =
      let made = was-made run history later other second in
      let allowed = claims-allowed run history later other row made too in
      let count : length made.before ≡ later = made.count in
      let apart : (length made.before == earlier) ≡ false = other_numbers earlier (length made.before) (omega arith) in
      let behind : numbered (other ∷ made.before) earlier ≡ Some one =
      numbered_behind (other ∷ made.before) known.decided earlier one made.behind first (omega arith) in
      let before : numbered made.before earlier ≡ Some one =
      sym (ap (λ (b : Bool). if b then Some other else numbered made.before earlier) apart) ∙ behind in
      let claimed : is_claimed made.before row ≡ true =
      numbered_passes (λ (it : Decided). is_row it.claim row) made.before earlier one before claims in
      let e : true ≡ false = sym claimed ∙ allowed.unclaimed in
      cc

  -- so the goal that claims a row is the one that does
  own_claim : (goal row : ℕ) (one : Decided) → decided_goal known goal ≡ Some one → is_row one.claim row ≡ true
      → claimer_of known.decided row ≡ Some goal
  own_claim goal row one decided claims =
      let claimed : is_claimed known.decided row ≡ true =
      numbered_passes (λ (it : Decided). is_row it.claim row) known.decided goal one decided claims in
      let found = some_there (claimer_of known.decided row) (claimed_by_one known.decided row ∙ claimed) in
      let its = where_found (λ (it : Decided). is_row it.claim row) known.decided found.0 found.1 in
      let same : found.0 ≡ goal = one_number found.0 goal
      (never_again row found.0 goal its.0 one its.1 decided its.2 claims)
      (never_again row goal found.0 one its.0 decided its.1 claims its.2) in
      found.1 ∙ ap (λ (n : ℕ). Some n) same

  module _ (orderly : IsOrderly run history) (goal row : ℕ) (recorded : is_recorded known goal ≡ true) (claims : claim_of known goal ≡ Some row) where
    -- a recorded goal is decided, and its claim is that of its decision
    decision : (one : Decided) × (decided_goal known goal ≡ Some one) × (is_row one.claim row ≡ true)
    decision =
        let there = recorded-held run history goal orderly recorded in
        let claim : there.1.claim ≡ Some row = sym (claim-of-decided known goal there.1 there.2.decided) ∙ claims in
        (there.1, there.2.decided, ap (λ (o : Option ℕ). is_row o row) claim ∙ same_number row)

    pub claim_stays : some_passes (λ entry. entry.doomed) (row_at known row) ≡ false
    claim_stays =
        let allowed = claims-allowed run history goal decision.0 row (was-made run history goal decision.0 decision.1) decision.2 in
        ap (λ (fixed : Fixed). some_passes (λ (entry : Entry). entry.doomed) (slice_get (rows_of fixed) row)) (run_of run history)
        ∙ ap (λ (o : Option Entry). some_passes (λ (entry : Entry). entry.doomed) o) allowed.at ∙ allowed.stays

    pub claim_own : claimer_of known.decided row ≡ Some goal
    claim_own = own_claim goal row decision.0 decision.1 decision.2

pub claims_keep : (run : Fixed) (history : List Event) → IsOrderly run history → AreKeepers (known_of run history)
claims_keep run history orderly = record {
  stays = λ goal row recorded claims. claim_stays run history orderly goal row recorded claims;
  own = λ goal row recorded claims. claim_own run history orderly goal row recorded claims;
}

-- ---- columns

module _ (columns : Columns) (known : Known) (tells : TellsClaims columns known) (keepers : AreKeepers known) where
  -- what is known, with the plain events of the columns
  abbrev plainly : Known
  plainly = record {
    run = known.run;
    history = history_by columns;
    answers = known.answers;
    goals = known.goals;
    decided = known.decided;
    asked = columns.requests.asked;
    problems = columns.troubles;
  }

  recorded_told : (goal : ℕ) → is_recorded plainly goal ≡ true → is_recorded known goal ≡ true
  recorded_told goal h =
      ap (λ (numbers : List ℕ). has_number numbers goal) tells.recorded ∙ sym (recorded_read columns goal) ∙ h

  plainly_kept : AreKeepers plainly
  plainly_kept = record {
    stays = λ goal row recorded claims. keepers.stays goal row (recorded_told goal recorded) claims;
    own = λ goal row recorded claims. keepers.own goal row (recorded_told goal recorded) claims;
  }

  same : plainly ≡ known_by columns
  same = λ i. record {
    run = tells.run i;
    history = history_by columns;
    answers = tells.answers i;
    goals = tells.goals i;
    decided = tells.decided i;
    asked = columns.requests.asked;
    problems = columns.troubles;
  }

  pub kept_in_columns : AreKeepers (known_by columns)
  kept_in_columns = subst AreKeepers same plainly_kept

pub columns_keep : ColumnsKeep
columns_keep = λ columns known tells keepers. kept_in_columns columns known tells keepers
