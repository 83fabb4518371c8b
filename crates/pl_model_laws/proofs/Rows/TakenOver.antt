-- The URN of a row that a recorded goal took over turns into that of a recorded goal.
use Rattle.std.proofs.Common.{◌≡◌, ℕ, ◌==◌, Bool, true, false, not, ◌||◌, if◌then◌else◌, List, [], ◌∷◌, bytes_eq, slice_get, Option, Some, None, is_some, refl, sym, ◌∙◌, ap, subst, option_and_then}
use Rattle.std.proofs.lemmas.Option.{same_Some}
use Rattle.std.proofs.Math.Bool.{or-true}
use Rattle.pl_lemmas.proofs.Options.{some_there}
use Rattle.pl_lemmas.proofs.Numbers.{same_number, equal_numbers}
use Rattle.pl_lemmas.specs.Words.{has_number, is_row, only_if, some_passes}
use Rattle.pl_state.specs.declared.entry.Entry.{Entry}
use Rattle.pl_state.specs.declared.goal.Goal.{Goal}
use Rattle.pl_events.specs.declared.event.Event.{Event}
use Rattle.pl_decide.specs.Limited.{is_create_first}
use Rattle.pl_model.specs.declared.decided.Decided.{Decided}
use Rattle.pl_model.specs.declared.fixed.Fixed.{Fixed}
use Rattle.pl_model.specs.Run.{rows_of}
use Rattle.pl_model.specs.Claims.{claimed_row, claimer_of}
use Rattle.pl_model.specs.Entries.{Turning, turning_of, turnings}
use Rattle.pl_model.specs.History.{known_of}
use Rattle.pl_model.specs.Known.{Known, claim_row, decided_goal, goal_at, is_recorded}
use Rattle.pl_model.specs.Legal.{IsOrderly}
use Rattle.pl_model.specs.Recording.{recorded_of}
use Rattle.pl_model.specs.Rows.{is_taken_over, stands_beside}
use Rattle.pl_model_stays.proofs.Goals.Claiming.{claims-allowed, was-made, where_found}
use Rattle.pl_model_stays.proofs.Lists.Growing.{run_of}
use Rattle.pl_model_stays.proofs.Operations.Once.{not_true}
use Rattle.pl_model_stays.proofs.Goals.Recorded.{recorded-held}
use Rattle.pl_model_stays.proofs.Goals.Standing.{claim-of-decided}
use Rattle.pl_model_laws.specs.Apart.{KeepsApart}
use Rattle.pl_model_laws.proofs.Rows.Leaving.{claimed-once, neither, same_row as rows_same}
use Rattle.pl_model_laws.proofs.Rows.Turning.{IsTurning, other-turn, own-turn, turned-of, turned_at, turned_by, turned_of, turning_parts}

-- where one of two holds and the second does not, the first does
pub first_true : (a : Bool) → (a || false) ≡ true → a ≡ true
first_true true h = refl
first_true false h = absurd (let e : false ≡ true = h in cc)

-- ---- the row of a claim

-- a row that is claimed stands at the number of the claim
claimed_parts : (run : Fixed) (claim : Option ℕ) (entry : Entry) → claimed_row run claim ≡ Some entry
    → (row : ℕ) × (is_row claim row ≡ true) × (slice_get (rows_of run) row ≡ Some entry)
claimed_parts run None entry h = absurd (let e : None ≡ Some entry = h in cc)
claimed_parts run (Some row) entry h = (row, same_number row, h)

-- ---- the turns of a history

-- a recorded goal has this URN
abbrev pub IsGoals : Known → List ℕ → Type 0
IsGoals known urn = (n : ℕ) × (goal : Goal) × (is_recorded known n ≡ true) × (goal_at known n ≡ Some goal) × (urn ≡ goal.urn)

-- the turn of a recorded goal leaves the URN of a recorded goal one of a recorded goal
goals_turned : (known : Known) (number : ℕ) (urn : List ℕ) → is_recorded known number ≡ true → IsGoals known urn
    → IsGoals known (turned_at (turning_of known number) urn)
goals_turned known number urn recorded goals = by (turning_of known number) refl
  where
    at : (turning : Turning) → turning_of known number ≡ Some turning → (b : Bool) → IsGoals known (if b then turning.new else urn)
    at turning is true = let parts = turning_parts known number turning is in (number, parts.goal, recorded, parts.stands, parts.to)
    at turning is false = goals

    by : (o : Option Turning) → turning_of known number ≡ o → IsGoals known (turned_at o urn)
    by None is = goals
    by (Some turning) is = at turning is (bytes_eq urn turning.old)

-- these numbers are those of recorded goals
abbrev pub AreRecorded : Known → List ℕ → Type 0
AreRecorded known numbers = (n : ℕ) → has_number numbers n ≡ true → is_recorded known n ≡ true

-- and so are the older of them, and the newest
older_recorded : (known : Known) (newest : ℕ) (older : List ℕ) → AreRecorded known (newest ∷ older) → AreRecorded known older
older_recorded known newest older only n h = only n (ap (λ (b : Bool). (newest == n) || b) h ∙ or-true (newest == n))

newest_recorded : (known : Known) (newest : ℕ) (older : List ℕ) → AreRecorded known (newest ∷ older) → is_recorded known newest ≡ true
newest_recorded known newest older only = only newest (ap (λ (b : Bool). b || has_number older newest) (same_number newest))

-- each recorded goal is decided
abbrev pub AllDecided : Fixed → List Event → Type 0
AllDecided run history = (n : ℕ) → is_recorded (known_of run history) n ≡ true → is_some (decided_goal (known_of run history) n) ≡ true

-- so it is in an orderly history
pub all-decided : (run : Fixed) (history : List Event) → IsOrderly run history → AllDecided run history
all-decided run history orderly n h = ap (λ (o : Option Decided). is_some o) (recorded-held run history n orderly h).2.decided

module _ (run : Fixed) (history : List Event) (all_decided : AllDecided run history) where
  abbrev known : Known
  known = known_of run history

  -- a recorded goal's turn is that of a row that it claims
  pub turning_row : (number : ℕ) (turning : Turning) → is_recorded known number ≡ true → (turn : IsTurning known number turning)
      → (one : Decided) × (row : ℕ) × (decided_goal known number ≡ Some one) × (is_row one.claim row ≡ true)
      × (slice_get (rows_of run) row ≡ Some turn.row)
  turning_row number turning recorded turn =
      let there = some_there (decided_goal known number) (all_decided number recorded) in
      let claimed : claimed_row run there.0.claim ≡ Some turn.row =
      ap (λ (fixed : Fixed). claimed_row fixed there.0.claim) (sym (run_of run history))
      ∙ ap (λ (claim : Option ℕ). claimed_row known.run claim) (sym (claim-of-decided known number there.0 there.1)) ∙ turn.claims in
      let parts = claimed_parts run there.0.claim turn.row claimed in
      (there.0, parts.0, there.1, parts.1, parts.2)

  -- and the row of its claim is the one that is claimed
  claim_row_is : (number row : ℕ) (one : Decided) (entry : Entry) → decided_goal known number ≡ Some one → is_row one.claim row ≡ true
      → slice_get (rows_of run) row ≡ Some entry → claim_row known number ≡ Some entry
  claim_row_is number row one entry decided claims at =
      ap (λ (claim : Option ℕ). claimed_row known.run claim) (claim-of-decided known number one decided)
      ∙ ap (λ (fixed : Fixed). claimed_row fixed one.claim) (run_of run history) ∙ by one.claim claims
    where
      by : (claim : Option ℕ) → is_row claim row ≡ true → claimed_row run claim ≡ Some entry
      by None h = absurd (let e : false ≡ true = h in cc)
      by (Some own) h = ap (λ (n : ℕ). slice_get (rows_of run) n) (equal_numbers own row h) ∙ at

  -- the turn of a recorded goal that does not claim a row leaves the row's URN
  unclaimed-turn : KeepsApart (rows_of run) → (row : ℕ) (entry : Entry) → slice_get (rows_of run) row ≡ Some entry → entry.doomed ≡ false
      → (number : ℕ) → is_recorded known number ≡ true
      → ((one : Decided) → decided_goal known number ≡ Some one → is_row one.claim row ≡ true → ⊥)
      → turned_at (turning_of known number) entry.urn ≡ entry.urn
  unclaimed-turn apart row entry at stays number recorded never = other-turn (turning_of known number) entry.urn (λ turning is same.
      let turn = turning_parts known number turning is in
      let its = turning_row number turning recorded turn in
      let allowed = claims-allowed run history number its.0 its.1 (was-made run history number its.0 its.2) its.3 in
      let its_stays : turn.row.doomed ≡ false =
      ap (λ (it : Entry). it.doomed) (same_Some turn.row allowed.entry (sym its.4 ∙ allowed.at)) ∙ allowed.stays in
      let same_row : its.1 ≡ row =
      rows_same (rows_of run) apart its.1 row turn.row entry its.4 at its_stays stays (sym turn.from ∙ sym same) in
      never its.0 its.2 (subst (λ (n : ℕ). is_row its.0.claim n ≡ true) same_row its.3))

  -- this row is claimed by this goal
  module _ (apart : KeepsApart (rows_of run)) (row : ℕ) (entry : Entry) (at : slice_get (rows_of run) row ≡ Some entry)
      (number : ℕ) (goal : Goal) (one : Decided) (stands : goal_at known number ≡ Some goal)
      (decided : decided_goal known number ≡ Some one) (claims : is_row one.claim row ≡ true) where
    -- so it is to stay
    row_stays : entry.doomed ≡ false
    row_stays =
        let allowed = claims-allowed run history number one row (was-made run history number one decided) claims in
        ap (λ (it : Entry). it.doomed) (same_Some entry allowed.entry (sym at ∙ allowed.at)) ∙ allowed.stays

    -- no other goal turns the row's URN
    others_turn : (other : ℕ) → is_recorded known other ≡ true → (other == number) ≡ false → turned_at (turning_of known other) entry.urn ≡ entry.urn
    others_turn other recorded apart_from = unclaimed-turn apart row entry at row_stays other recorded (λ its decided_too claims_too.
        let one_goal : other ≡ number = claimed-once run history other number its one row decided_too decided claims_too claims in
        let e : true ≡ false = sym (same_number number) ∙ ap (λ (n : ℕ). n == number) (sym one_goal) ∙ apart_from in
        cc)

    -- until the goal is recorded nothing turns it
    untouched : (numbers : List ℕ) → AreRecorded known numbers → has_number numbers number ≡ false → turned_of known numbers entry.urn ≡ entry.urn
    untouched [] only h = refl
    untouched (newest ∷ older) only h =
        let parts = neither (newest == number) (has_number older number) h in
        ap (turned_at (turning_of known newest)) (untouched older (older_recorded known newest older only) parts.1)
        ∙ others_turn newest (newest_recorded known newest older only) parts.0

    -- and its record makes it the goal's own
    pub first-turned : (newest : ℕ) (older : List ℕ) → AreRecorded known older → has_number older number ≡ false → (newest == number) ≡ true
        → turned_of known (newest ∷ older) entry.urn ≡ goal.urn
    first-turned newest older only none is =
        ap (λ (n : ℕ). turned_at (turning_of known n) (turned_of known older entry.urn)) (equal_numbers newest number is)
        ∙ ap (turned_at (turning_of known number)) (untouched older only none)
        ∙ own-turn known number goal entry stands (claim_row_is number row one entry decided claims at)

    -- the URN is that of a recorded goal once the goal is recorded
    turned_goals : (numbers : List ℕ) → AreRecorded known numbers → has_number numbers number ≡ true → IsGoals known (turned_of known numbers entry.urn)
    turned_goals [] only h = absurd (let e : false ≡ true = h in cc)
    turned_goals (newest ∷ older) only h =
        by (has_number older number) refl h (turned_goals older (older_recorded known newest older only))
      where
        by : (b : Bool) → has_number older number ≡ b → ((newest == number) || b) ≡ true
            → (has_number older number ≡ true → IsGoals known (turned_of known older entry.urn))
            → IsGoals known (turned_of known (newest ∷ older) entry.urn)
        by true is h rest = goals_turned known newest (turned_of known older entry.urn) (newest_recorded known newest older only) (rest is)
        by false is h rest =
            let own : (newest == number) ≡ true = first_true (newest == number) h in (
              number,
              goal,
              only number (ap (λ (b : Bool). b || has_number older number) own),
              stands,
              first-turned newest older (older_recorded known newest older only) is own,
            )

  -- ---- rows that were taken over

  -- the recorded goal that took a row over
  pub record Taker (row : ℕ) : Type 0 where
    pub number : ℕ
    pub one : Decided
    pub recorded : is_recorded known number ≡ true
    pub decided : decided_goal known number ≡ Some one
    pub claims : is_row one.claim row ≡ true
    pub creates_none : is_create_first one.decision ≡ false

  -- a row that was taken over has one
  pub taker : (row : ℕ) → is_taken_over known row ≡ true → Taker row
  taker row h = by (claimer_of known.decided row) refl h
    where
      at : (number : ℕ) → claimer_of known.decided row ≡ Some number → (b : Bool) → is_recorded known number ≡ b
          → some_passes (λ (n : ℕ). not (stands_beside known n)) (only_if b (Some number)) ≡ true → Taker row
      at number is true recorded h =
          let found = where_found (λ (it : Decided). is_row it.claim row) known.decided number is in
          record {
            number = number;
            one = found.0;
            recorded = recorded;
            decided = found.1;
            claims = found.2;
            creates_none = sym (ap (λ (o : Option Decided). some_passes (λ (it : Decided). is_create_first it.decision) o) found.1)
                ∙ not_true (stands_beside known number) h;
          }
      at number is false recorded h = absurd (let e : false ≡ true = h in cc)

      by : (o : Option ℕ) → claimer_of known.decided row ≡ o
          → some_passes (λ (n : ℕ). not (stands_beside known n)) (option_and_then (λ (n : ℕ). only_if (is_recorded known n) (Some n)) o) ≡ true
          → Taker row
      by None is h = absurd (let e : false ≡ true = h in cc)
      by (Some number) is h = at number is (is_recorded known number) refl h

  -- the URN of a row that was taken over turns into that of a recorded goal
  pub taken-turned : (row : ℕ) (entry : Entry) → KeepsApart (rows_of run) → slice_get (rows_of run) row ≡ Some entry
      → is_taken_over known row ≡ true
      → (n : ℕ) × (goal : Goal) × (is_recorded known n ≡ true) × (goal_at known n ≡ Some goal) × (turned_by (turnings known) entry.urn ≡ goal.urn)
  taken-turned row entry apart at taken =
      let own = taker row taken in
      let made = was-made run history own.number own.one own.decided in
      subst (λ (urn : List ℕ). IsGoals known urn) (sym (turned-of known entry.urn))
      (turned_goals apart row entry at own.number made.goal own.one made.stands own.decided own.claims
      (recorded_of known.history) (λ n there. there) own.recorded)
