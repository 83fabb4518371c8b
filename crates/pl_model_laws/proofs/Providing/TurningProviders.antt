-- No URN that one alias made is turned by another; so what refers to a provider's row that a recorded goal took over refers
-- to that goal after the turns of all aliases.
use Rattle.std.proofs.Common.{◌≡◌, ◌≢◌, ℕ, ◌==◌, Bool, true, false, ◌||◌, List, [], ◌∷◌, AllPairs, reverse, Option, Some, None, refl, sym, ◌∙◌, ap, subst, slice_get}
use Rattle.std.specs.Bool.{beq}
use Rattle.std.specs.List.{cons_option}
use Rattle.std.proofs.Math.Bool.{or-true}
use Rattle.std.proofs.lemmas.Option.{same_Some}
use Rattle.pl_lemmas.proofs.Numbers.{same_number}
use Rattle.pl_lemmas.proofs.Each.{Each, Pairwise}
use Rattle.pl_state.specs.Kinds.{is_provider_goal, is_provider_row}
use Rattle.pl_state.specs.declared.entry.Entry.{Entry}
use Rattle.pl_state.specs.declared.goal.Goal.{Goal}
use Rattle.pl_events.specs.declared.event.Event.{Event}
use Rattle.pl_model.specs.declared.decided.Decided.{Decided}
use Rattle.pl_model.specs.declared.fixed.Fixed.{Fixed}
use Rattle.pl_model.specs.Run.{is_preview, rows_of}
use Rattle.pl_lemmas.specs.Words.{has_number, is_row}
use Rattle.pl_model.specs.Recording.{recorded_by, recorded_of}
use Rattle.pl_model.specs.Entries.{Turning, turning_of, turnings}
use Rattle.pl_model.specs.History.{known_of}
use Rattle.pl_model.specs.Known.{Known, decided_goal, goal_at, is_recorded}
use Rattle.pl_model.specs.Legal.{IsOrderly}
use Rattle.pl_model.specs.Rows.{is_left, is_marked, is_taken_over}
use Rattle.pl_model_stays.proofs.Goals.Claiming.{claims-allowed, was-made}
use Rattle.pl_model_stays.proofs.Operations.Once.{history_of}
use Rattle.pl_model_stays.proofs.Lists.Pairs.{pairs-all, pairs-mapped, pairs-turned}
use Rattle.pl_model_stays.proofs.Goals.Recorded.{recorded-held, recording-held, recording-new}
use Rattle.pl_model_stays.proofs.Goals.Staying.{recorded-as}
use Rattle.pl_model_laws.specs.Apart.{KeepsApart}
use Rattle.pl_model_laws.proofs.Urns.Freed.{free-recorded}
use Rattle.pl_model_laws.proofs.Rows.Leaving.{claimed-once}
use Rattle.pl_model_laws.proofs.Rows.Removing.{Later, later-before, later-now, unrecorded-left, unrecorded-unmarked}
use Rattle.pl_model_laws.proofs.Rows.TakenOver.{AllDecided, AreRecorded, all-decided, first-turned, first_true, taker, turning_row}
use Rattle.pl_model_laws.proofs.Rows.Turning.{other-turn, turned-of, turned_at, turned_by, turned_of, turning_parts}

-- what is alike to something true is true
alike_true : (a b : Bool) → beq a b ≡ true → b ≡ true → a ≡ true
alike_true true b h is = refl
alike_true false true h is = absurd (let e : false ≡ true = h in cc)
alike_true false false h is = absurd (let e : false ≡ true = is in cc)

module _ (run : Fixed) (history : List Event) (real : is_preview run.mode ≡ false) (apart : KeepsApart (rows_of run))
    (orderly : IsOrderly run history) where
  abbrev known : Known
  known = known_of run history

  decided_all : AllDecided run history
  decided_all = all-decided run history orderly

  -- what a history before records is recorded
  are_recorded : (past : List Event) → Later run past known → AreRecorded known (recorded_of past)
  are_recorded past later n h = later.recordings n (recorded-as run past n ∙ h)

  -- no goal that is recorded later claims by an alias a row with the URN of a recorded goal
  module _ (number : ℕ) (goal : Goal) (one : Decided) (stands : goal_at known number ≡ Some goal)
      (decided : decided_goal known number ≡ Some one) where
    never_turned : (event : Event) (past : List Event) → Later run past known → IsOrderly run (event ∷ past)
        → has_number (recorded_of past) number ≡ true → (other : ℕ) → recorded_by past event.what ≡ Some other
        → is_recorded known other ≡ true → (turning : Turning) → turning_of known other ≡ Some turning → goal.urn ≡ turning.old → ⊥
    never_turned event past later orderly_then recorded other records is_there turning is same =
        let turn = turning_parts known other turning is in
        let its = turning_row run history decided_all other turning is_there turn in
        let urn : goal.urn ≡ turn.row.urn = same ∙ turn.from in
        let there = recording-held run event past other orderly_then records in
        let own : decided_goal (known_of run past) other ≡ Some its.0 =
        there.2.decided ∙ ap (λ (it : Decided). Some it) (same_Some there.1 its.0 (sym (later.decisions other there.1 there.2.decided) ∙ its.2)) in
        let unrecorded : has_number (recorded_of past) other ≡ false =
        recording-new run event.seat past event.what other orderly_then.0 orderly_then.1 records in
        let missing : is_recorded (known_of run past) other ≡ false = recorded-as run past other ∙ unrecorded in
        let left : is_left (known_of run past) its.1 ≡ true =
        unrecorded-left run past other its.1 its.0 own its.3 orderly_then.0 missing in
        let unmarked : is_marked (known_of run past) its.1 ≡ false =
        unrecorded-unmarked run past other its.1 its.0 own its.3 orderly_then.0 missing in
        let free = free-recorded run real apart past number orderly_then.0 recorded in
        let goal_same : free.goal ≡ goal = same_Some free.goal goal (sym (later.goals number free.goal free.stands) ∙ stands) in
        let one_same : free.one ≡ one = same_Some free.one one (sym (later.decisions number free.one free.decided) ∙ decided) in
        free.none its.1 turn.row its.4 left unmarked
        (ap (λ (it : Decided). is_row it.claim its.1) one_same ∙ not_own recorded other its.0 its.1 its.2 its.3 unrecorded)
        (sym urn ∙ sym (ap (λ (it : Goal). it.urn) goal_same))
      where
        not_own : has_number (recorded_of past) number ≡ true → (n : ℕ) (its : Decided) (place : ℕ) → decided_goal known n ≡ Some its
            → is_row its.claim place ≡ true → has_number (recorded_of past) n ≡ false → is_row one.claim place ≡ false
        not_own recorded n its place decided_too claims_too unrecorded = by (is_row one.claim place) refl
          where
            by : (b : Bool) → is_row one.claim place ≡ b → b ≡ false
            by false is = refl
            by true is =
                let one_goal : number ≡ n = claimed-once run history number n one its place decided decided_too is claims_too in
                let e : true ≡ false = sym recorded ∙ ap (λ (k : ℕ). has_number (recorded_of past) k) one_goal ∙ unrecorded in
                absurd (let f : true ≡ false = e in cc)

  -- this row is claimed by this goal
  module _ (row : ℕ) (entry : Entry) (at : slice_get (rows_of run) row ≡ Some entry)
      (number : ℕ) (goal : Goal) (one : Decided) (stands : goal_at known number ≡ Some goal)
      (decided : decided_goal known number ≡ Some one) (claims : is_row one.claim row ≡ true) where
    -- from its record on the URN is the goal's own
    stays_turned : (past : List Event) → Later run past known → IsOrderly run past → has_number (recorded_of past) number ≡ true
        → turned_of known (recorded_of past) entry.urn ≡ goal.urn
    stays_turned [] later orderly_then h = absurd (let e : false ≡ true = h in cc)
    stays_turned (event ∷ past) later orderly_then h =
        by (recorded_by past event.what) refl h
        (stays_turned past (later-before run event past known orderly_then.1 later) orderly_then.0)
      where
        new_recorded : (other : ℕ) → recorded_by past event.what ≡ Some other → is_recorded known other ≡ true
        new_recorded other is =
            are_recorded (event ∷ past) later other
            (ap (λ (o : Option ℕ). has_number (cons_option o (recorded_of past)) other) is
            ∙ ap (λ (b : Bool). b || has_number (recorded_of past) other) (same_number other))

        new : (other : ℕ) → recorded_by past event.what ≡ Some other → (b : Bool) → has_number (recorded_of past) number ≡ b
            → ((other == number) || b) ≡ true
            → (has_number (recorded_of past) number ≡ true → turned_of known (recorded_of past) entry.urn ≡ goal.urn)
            → turned_of known (other ∷ recorded_of past) entry.urn ≡ goal.urn
        new other is true recorded h rest =
            ap (turned_at (turning_of known other)) (rest recorded)
            ∙ other-turn (turning_of known other) goal.urn
            (never_turned number goal one stands decided event past (later-before run event past known orderly_then.1 later) orderly_then
            recorded other is (new_recorded other is))
        new other is false none h rest =
            first-turned run history decided_all apart row entry at number goal one stands decided claims other (recorded_of past)
            (are_recorded past (later-before run event past known orderly_then.1 later)) none
            (first_true (other == number) h)

        by : (o : Option ℕ) → recorded_by past event.what ≡ o → has_number (cons_option o (recorded_of past)) number ≡ true
            → (has_number (recorded_of past) number ≡ true → turned_of known (recorded_of past) entry.urn ≡ goal.urn)
            → turned_of known (cons_option o (recorded_of past)) entry.urn ≡ goal.urn
        by None is h rest = rest h
        by (Some other) is h rest = new other is (has_number (recorded_of past) number) refl h rest

  -- the URN of a provider's row that was taken over turns into that of the goal that took it over
  pub provider-turned : (row : ℕ) (entry : Entry) → slice_get (rows_of run) row ≡ Some entry → is_taken_over known row ≡ true
      → is_provider_row entry ≡ true
      → (n : ℕ) × (goal : Goal) × (one : Decided) × (is_recorded known n ≡ true) × (goal_at known n ≡ Some goal)
      × (decided_goal known n ≡ Some one) × (is_row one.claim row ≡ true) × (is_provider_goal goal ≡ true)
      × (turned_by (turnings known) entry.urn ≡ goal.urn)
  provider-turned row entry at taken provides =
      let own = taker run history decided_all row taken in
      let made = was-made run history own.number own.one own.decided in
      let allowed = claims-allowed run history own.number own.one row made own.claims in
      let provider : is_provider_goal made.goal ≡ true =
      alike_true (is_provider_goal made.goal) (is_provider_row allowed.entry) allowed.alike
      (ap (λ (it : Entry). is_provider_row it) (same_Some allowed.entry entry (sym allowed.at ∙ at)) ∙ provides) in
      let turned : turned_of known (recorded_of history) entry.urn ≡ made.goal.urn =
      stays_turned row entry at own.number made.goal own.one made.stands own.decided own.claims history (later-now run history) orderly
      (sym (recorded-as run history own.number) ∙ own.recorded) in (
        own.number,
        made.goal,
        own.one,
        own.recorded,
        made.stands,
        own.decided,
        own.claims,
        provider,
        turned-of known entry.urn ∙ ap (λ (events : List Event). turned_of known (recorded_of events) entry.urn) (history_of run history) ∙ turned,
      )

  -- ---- no URN that one alias made is turned by another

  -- the URN that one goal's turn made is not the one that another's turned
  abbrev TurnsApart : ℕ → ℕ → Type 0
  TurnsApart earlier later = (first second : Turning) → turning_of known earlier ≡ Some first → turning_of known later ≡ Some second
      → first.new ≢ second.old

  -- each goal's, of those that were recorded before
  apart_from : (event : Event) (past : List Event) → Later run past known → IsOrderly run (event ∷ past) → (other : ℕ)
      → recorded_by past event.what ≡ Some other → is_recorded known other ≡ true → (numbers : List ℕ)
      → ((n : ℕ) → has_number numbers n ≡ true → has_number (recorded_of past) n ≡ true) → Each (λ n. TurnsApart n other) numbers
  apart_from event past later orderly_then other records is_there [] within = tt
  apart_from event past later orderly_then other records is_there (number ∷ numbers) within = (
    λ first second is too same.
        let recorded : has_number (recorded_of past) number ≡ true = within number (rw (same_number number) refl) in
        let there = recorded-held run history number orderly (are_recorded past later number recorded) in
        let turn = turning_parts known number first is in
        let own : turn.goal ≡ there.0 = same_Some turn.goal there.0 (sym turn.stands ∙ there.2.stands) in
        never_turned number there.0 there.1 there.2.stands there.2.decided event past later orderly_then recorded other records is_there second too
        (ap (λ (goal : Goal). goal.urn) (sym own) ∙ sym turn.to ∙ same),
    apart_from event past later orderly_then other records is_there numbers (λ n has. within n (rw has (or-true (number == n)))),
  )

  turns_apart : (past : List Event) → Later run past known → IsOrderly run past
      → Pairwise (λ later earlier. TurnsApart earlier later) (recorded_of past)
  turns_apart [] later orderly_then = tt
  turns_apart (event ∷ past) later orderly_then = by (recorded_by past event.what) refl (turns_apart past before orderly_then.0)
    where
      before : Later run past known
      before = later-before run event past known orderly_then.1 later

      by : (o : Option ℕ) → recorded_by past event.what ≡ o → Pairwise (λ later earlier. TurnsApart earlier later) (recorded_of past)
          → Pairwise (λ later earlier. TurnsApart earlier later) (cons_option o (recorded_of past))
      by None is rest = rest
      by (Some other) is rest =
          let there : is_recorded known other ≡ true =
          are_recorded (event ∷ past) later other
          (ap (λ (o : Option ℕ). has_number (cons_option o (recorded_of past)) other) is
          ∙ ap (λ (b : Bool). b || has_number (recorded_of past) other) (same_number other)) in
          (apart_from event past before orderly_then other is there (recorded_of past) (λ n has. has), rest)

  pub turned-once : AllPairs (λ earlier later. earlier.new ≢ later.old) (turnings known)
  turned-once =
      pairs-all (λ earlier later. earlier.new ≢ later.old) (turnings known)
      (pairs-mapped (turning_of known) (λ earlier later. earlier.new ≢ later.old) (reverse (recorded_of known.history))
      (pairs-turned (λ later earlier. TurnsApart earlier later) TurnsApart (λ later earlier apart_so. apart_so) (recorded_of known.history)
      (subst (λ (events : List Event). Pairwise (λ later earlier. TurnsApart earlier later) (recorded_of events)) (sym (history_of run history))
      (turns_apart history (later-now run history) orderly))))
