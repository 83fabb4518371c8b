-- From its first operation or its keep on, a goal's URN is its own among the rows that are to stay, and what goes before it is gone.
use Rattle.std.proofs.Common.{◌≡◌, ◌≢◌, ℕ, ◌==◌, Bool, true, false, not, ◌&&◌, ◌||◌, if◌then◌else◌, List, ◌∷◌, length, nat_lt, slice_get, Option, Some, None, is_none, is_some, refl, sym, ◌∙◌, ap, subst, arith, []}
use Rattle.std.proofs.lemmas.Bool.Decides.{nat_tests}
use Rattle.std.proofs.lemmas.Slice.Eq.{bytes_eq-Decides}
use Rattle.std.specs.List.{cons_option, list_all, list_any}
use Rattle.std.proofs.lemmas.Option.{same_Some}
use Rattle.pl_lemmas.proofs.Truth.{and_left, and_right}
use Rattle.pl_lemmas.proofs.Numbers.{equal_numbers}
use Rattle.pl_lemmas.specs.Words.{has_number, is_row, none_or, some_passes}
use Rattle.pl_state.specs.Kinds.{is_provided}
use Rattle.pl_state.specs.declared.entry.Entry.{Entry}
use Rattle.pl_state.specs.declared.goal.Goal.{Goal}
use Rattle.pl_events.specs.declared.event.Event.{Event}
use Rattle.pl_events.specs.declared.event.What.{What}
use Rattle.pl_events.specs.declared.event.What.TheVariants.{Answered, Begun, Kept}
use Rattle.pl_events.specs.declared.operation.Op.{Op}
use Rattle.pl_decide.specs.declared.decision.Decision.{Decision}
use Rattle.pl_decide.specs.declared.decision.Decision.TheVariants as decision
use Rattle.pl_decide.specs.Limited.{is_create_first, is_delete_first, is_refused, is_replacement}
use Rattle.pl_model.specs.declared.decided.Decided.{Decided}
use Rattle.pl_model.specs.declared.errand.Errand.{Errand}
use Rattle.pl_model.specs.declared.fixed.Fixed.{Fixed}
use Rattle.pl_model.specs.declared.work.Work.TheVariants.{Keep as to_keep, Send as to_send}
use Rattle.pl_model.specs.Run.{is_preview, rows_of}
use Rattle.pl_model.specs.Claims.{chain_of_claim, chain_of_goal}
use Rattle.pl_model.specs.Due.{holds_urn, is_due, is_due_on, is_placed, is_ready_on, keeps_goal, op_of_decision, op_of_goal, passes_limit, provider_stands, references_recorded, sends_goal, urn_is_free, way_is_free}
use Rattle.pl_model.specs.History.{known_of}
use Rattle.pl_model.specs.Known.{Known, decided_goal, goal_at, has_problem, is_recorded}
use Rattle.pl_model.specs.Legal.{IsOrderly, MayHappen}
use Rattle.pl_model.specs.Recording.{goal_of_op, recorded_by, recorded_of}
use Rattle.pl_model.specs.Rows.{is_left, is_marked, row_at, row_numbers, was_removed}
use Rattle.pl_model.specs.Tickets.{begun_of, errand_by, same_op, was_begun}
use Rattle.pl_model_stays.proofs.Goals.Claiming.{unprovided-stays, was-made}
use Rattle.pl_model_stays.proofs.Lists.Growing.{decisions-stay, goals-stay, run_of}
use Rattle.pl_model_stays.proofs.Operations.Once.{equal_ops, not_true, left_parts}
use Rattle.pl_model_stays.proofs.Goals.Recorded.{found, ready_sends, recorded-held}
use Rattle.pl_model_stays.proofs.Goals.Staying.{answered_errand, errand_sent, sent_begun}
use Rattle.pl_model_stays.proofs.Lists.Ranges.{range_lacks}
use Rattle.pl_model_laws.specs.Apart.{KeepsApart}
use Rattle.pl_model_laws.proofs.Rows.Leaving.{neither, not_earlier, unmarked-before, unmarked-urn}
use Rattle.pl_model_laws.proofs.Rows.TakenOut.{left-before}

-- no row that is to stay has the goal's URN, but the row that the goal claims; no row of the goal's chain is left
pub record IsFree (run : Fixed) (history : List Event) (number : ℕ) : Type 0 where
  pub goal : Goal
  pub one : Decided
  pub stands : goal_at (known_of run history) number ≡ Some goal
  pub decided : decided_goal (known_of run history) number ≡ Some one
  pub none : (row : ℕ) (entry : Entry) → slice_get (rows_of run) row ≡ Some entry
      → is_left (known_of run history) row ≡ true → is_marked (known_of run history) row ≡ false
      → is_row one.claim row ≡ false → entry.urn ≢ goal.urn
  pub gone : (row : ℕ) → has_number (chain_of_goal run one) row ≡ true → is_left (known_of run history) row ≡ false

free_stays : (run : Fixed) (event : Event) (past : List Event) (number : ℕ) → IsOrderly run (event ∷ past)
    → IsFree run past number → IsFree run (event ∷ past) number
free_stays run event past number orderly h = record {
  goal = h.goal;
  one = h.one;
  stands = goals-stay run event past number h.goal h.stands;
  decided = decisions-stay run event past number h.one h.decided;
  none = λ row entry is left unmarked other. h.none row entry is (left-before run event past orderly row left) (unmarked-before run event past row unmarked) other;
  gone = λ row chained. not_earlier (is_left (known_of run past) row) (is_left (known_of run (event ∷ past)) row)
      (left-before run event past orderly row) (h.gone row chained);
}

-- what all of the numbers pass, one that is there passes
number_passes : (test : ℕ → Bool) (numbers : List ℕ) (n : ℕ) → list_all test numbers ≡ true → has_number numbers n ≡ true → test n ≡ true
number_passes test [] n all has = absurd (let e : false ≡ true = has in cc)
number_passes test (first ∷ others) n all has =
    by (first == n) refl has (number_passes test others n (and_right (test first) _ all))
  where
    by : (b : Bool) → (first == n) ≡ b → (b || has_number others n) ≡ true → (has_number others n ≡ true → test n ≡ true) → test n ≡ true
    by true is has rest = subst (λ (k : ℕ). test k ≡ true) (equal_numbers first n is) (and_left (test first) _ all)
    by false is has rest = rest has

-- a replacement takes an operation
first_needs : (n : ℕ) (choice : Decision) → is_delete_first choice ≡ true → is_none (op_of_decision n choice) ≡ false
first_needs n (decision.Replace first) h = refl
first_needs n _ h = absurd (let e : false ≡ true = h in cc)

-- a chain is one of a goal that is deleted first
chain_first : (run : Fixed) (one : Decided) (row : ℕ) → has_number (chain_of_goal run one) row ≡ true → is_delete_first one.decision ≡ true
chain_first run one row h = by (is_delete_first one.decision) h
  where
    by : (b : Bool) → has_number (if b then chain_of_claim run one.claim else []) row ≡ true → b ≡ true
    by true h = refl
    by false h = absurd (let e : false ≡ true = h in cc)

-- what is not false by the first of two is so by the second
second_of_two : (a b : Bool) → (not a || b) ≡ true → a ≡ true → b ≡ true
second_of_two true b h is = h
second_of_two false b h is = absurd (let e : false ≡ true = is in cc)

module _ (run : Fixed) (real : is_preview run.mode ≡ false) (apart : KeepsApart (rows_of run)) where
  module _ (history : List Event) (orderly : IsOrderly run history) where
    abbrev known : Known
    known = known_of run history

    all_decided : (m : ℕ) → is_recorded known m ≡ true → is_some (decided_goal known m) ≡ true
    all_decided m h = let there = recorded-held run history m orderly h in ap (λ (o : Option Decided). is_some o) there.2.decided

    -- where the wait for a free URN is over, it is free
    free_here : (number : ℕ) (goal : Goal) (one : Decided) → goal_at known number ≡ Some goal → decided_goal known number ≡ Some one
        → is_placed known number goal one ≡ true
        → ((row : ℕ) → has_number (chain_of_goal run one) row ≡ true → is_left known row ≡ false) → IsFree run history number
    free_here number goal one stands decided placed gone = record {
      goal = goal;
      one = one;
      stands = stands;
      decided = decided;
      none = λ row entry is left unmarked other same.
          let free : urn_is_free known goal one ≡ true = urn_free in
          let none : list_any (holds_urn known goal one) (row_numbers known) ≡ false = not_true (list_any (holds_urn known goal one) (row_numbers known)) free in
          let below = (left_parts (nat_lt row (length (rows_of known.run))) _ _ left).0 in
          let lacks : holds_urn known goal one row ≡ false =
          range_lacks (holds_urn known goal one) 0 (length (rows_of known.run)) row (omega arith) (grind (arith, nat_tests)) none in
          let at : row_at known row ≡ Some entry = ap (λ (fixed : Fixed). slice_get (rows_of fixed) row) (run_of run history) ∙ is in
          let now = unmarked-urn run history row entry apart all_decided at left unmarked in
          let holds : holds_urn known goal one row ≡ true =
          rw left (rw unmarked (rw other (rw now.1 ((bytes_eq-Decides now.0.urn goal.urn).1 (now.2 ∙ same))))) in
          absurd (let e : true ≡ false = sym holds ∙ lacks in cc);
      gone = gone;
    }
      where
        urn_free : urn_is_free known goal one ≡ true
        urn_free =
            let waits : (is_preview known.run.mode || urn_is_free known goal one) ≡ true =
            and_right (not (is_refused one.decision) && not (is_recorded known number) && references_recorded known goal) _ placed in
            let live : is_preview known.run.mode ≡ false = ap (λ (fixed : Fixed). is_preview fixed.mode) (run_of run history) ∙ real in
            subst (λ (b : Bool). (b || urn_is_free known goal one) ≡ true) live waits

    -- a goal that is kept has no chain
    kept_chainless : (number : ℕ) (goal : Goal) (one : Decided) → goal_at known number ≡ Some goal → decided_goal known number ≡ Some one
        → is_none (op_of_goal known number goal one) ≡ true → (row : ℕ) → has_number (chain_of_goal run one) row ≡ true → is_left known row ≡ false
    kept_chainless number goal one stands decided none row chained =
        absurd (let e : true ≡ false = sym none ∙ needs in cc)
      where
        first : is_delete_first one.decision ≡ true
        first = chain_first run one row chained

        provided : is_provided goal ≡ true
        provided = by (is_provided goal) refl
          where
            by : (b : Bool) → is_provided goal ≡ b → b ≡ true
            by true is = refl
            by false is =
                let made = was-made run history number one decided in
                let same : made.goal ≡ goal = same_Some made.goal goal (sym made.stands ∙ stands) in
                let never : is_replacement one.decision ≡ false =
                unprovided-stays run history number one made (ap (λ (it : Goal). is_provided it) same ∙ is) in
                absurd (let e : true ≡ false = sym first ∙ (neither (is_delete_first one.decision) (is_create_first one.decision) never).0 in cc)

        needs : is_none (op_of_goal known number goal one) ≡ false
        needs =
            let live : is_preview known.run.mode ≡ false = ap (λ (fixed : Fixed). is_preview fixed.mode) (run_of run history) ∙ real in
            rw provided (rw live (first_needs number one.decision first))

    free_kept : (number : ℕ) → is_due known (to_keep number) ≡ true → IsFree run history number
    free_kept number due =
        let it = found known number (keeps_goal known number)
        (and_right (not (has_problem known)) _ (and_left _ (not (passes_limit known (to_keep number))) due)) in
        let both : (is_placed known number it.0 it.1 && is_none (op_of_goal known number it.0 it.1)) ≡ true =
        and_left _ (provider_stands known number it.0) it.4 in
        free_here number it.0 it.1 it.2 it.3 (and_left _ (is_none (op_of_goal known number it.0 it.1)) both)
        (kept_chainless number it.0 it.1 it.2 it.3 (and_right (is_placed known number it.0 it.1) _ both))

    free_sent : (about : Op) (number lane : ℕ) → goal_of_op about ≡ Some number → is_due_on known about lane ≡ true → IsFree run history number
    free_sent about number lane on due =
        let it = found known number (sends_goal known number about)
        (ready_sends known number about lane on (and_left (is_ready_on known about lane) (not (passes_limit known (to_send about))) due)) in
        free_here number it.0 it.1 it.2 it.3
        (and_left _ (some_passes (same_op about) (op_of_goal known number it.0 it.1)) (and_left _ (way_is_free known it.1) it.4))
        (λ row chained. way_gone it.1 row chained (and_right _ (way_is_free known it.1) it.4))
      where
        way_gone : (one : Decided) (row : ℕ) → has_number (chain_of_goal run one) row ≡ true → way_is_free known one ≡ true → is_left known row ≡ false
        way_gone one row chained way =
            let clear : (none_or (was_removed known) one.claim && list_all (λ place. not (is_left known place)) (chain_of_goal known.run one)) ≡ true =
            second_of_two (is_delete_first one.decision) _ way (chain_first run one row chained) in
            not_true (is_left known row)
            (number_passes (λ place. not (is_left known place)) (chain_of_goal known.run one) row
            (and_right (none_or (was_removed known) one.claim) _ clear)
            (ap (λ (fixed : Fixed). has_number (chain_of_goal fixed one) row) (run_of run history) ∙ chained))

  begun_due : (past : List Event) (seat : ℕ) (what : What) (errand : Errand) → MayHappen (known_of run past) seat what
      → errand_by seat what ≡ Some errand → is_due_on (known_of run past) errand.op errand.lane ≡ true
  begun_due past seat (Begun ticket lane about) errand may h =
      subst (λ (one : Errand). is_due_on (known_of run past) one.op one.lane ≡ true)
      (same_Some (record { ticket = ticket; seat = seat; lane = lane; op = about }) errand h) may.due
  begun_due past seat _ errand may h = absurd (let e : None ≡ Some errand = h in cc)

  -- an operation on a goal was begun
  pub free-begun : (history : List Event) (about : Op) (number : ℕ) → IsOrderly run history
      → was_begun history about ≡ true → goal_of_op about ≡ Some number → IsFree run history number
  free-begun [] about number orderly begun on = absurd (let e : false ≡ true = begun in cc)
  free-begun (event ∷ past) about number orderly begun on =
      free_stays run event past number orderly (by (errand_by event.seat event.what) refl begun (λ old. free-begun past about number orderly.0 old on))
    where
      new : (errand : Errand) → errand_by event.seat event.what ≡ Some errand → (b : Bool) → same_op errand.op about ≡ b
          → (b || was_begun past about) ≡ true → (was_begun past about ≡ true → IsFree run past number) → IsFree run past number
      new errand is true at h old =
          free_sent past orderly.0 about number errand.lane on
          (subst (λ (one : Op). is_due_on (known_of run past) one errand.lane ≡ true) (equal_ops errand.op about at)
          (begun_due past event.seat event.what errand orderly.1 is))
      new errand is false at h old = old h

      by : (o : Option Errand) → errand_by event.seat event.what ≡ o
          → list_any (λ errand. same_op errand.op about) (cons_option o (begun_of past)) ≡ true
          → (was_begun past about ≡ true → IsFree run past number) → IsFree run past number
      by None is h old = old h
      by (Some errand) is h old = new errand is (same_op errand.op about) refl h old

  -- what an event records has its URN free before
  recording_free : (past : List Event) (seat : ℕ) (what : What) (number : ℕ) → IsOrderly run past
      → MayHappen (known_of run past) seat what → recorded_by past what ≡ Some number → IsFree run past number
  recording_free past seat (Kept kept fresh) number orderly may h =
      subst (λ (n : ℕ). IsFree run past n) (same_Some kept number h) (free_kept past orderly kept may.due)
  recording_free past seat (Answered ticket reply) number orderly may h =
      let answered = answered_errand past ticket reply number h in
      free-begun past answered.0.op number orderly
      (sent_begun past ticket answered.0.op (errand_sent past ticket answered.0 answered.1)) answered.2
  recording_free past seat _ number orderly may h = absurd (let e : None ≡ Some number = h in cc)

  -- a goal was recorded
  pub free-recorded : (history : List Event) (number : ℕ) → IsOrderly run history
      → has_number (recorded_of history) number ≡ true → IsFree run history number
  free-recorded [] number orderly h = absurd (let e : false ≡ true = h in cc)
  free-recorded (event ∷ past) number orderly h =
      free_stays run event past number orderly (by (recorded_by past event.what) refl h (λ old. free-recorded past number orderly.0 old))
    where
      new : (other : ℕ) → recorded_by past event.what ≡ Some other → (b : Bool) → (other == number) ≡ b
          → (b || has_number (recorded_of past) number) ≡ true → (has_number (recorded_of past) number ≡ true → IsFree run past number)
          → IsFree run past number
      new other is true at h old =
          subst (λ (n : ℕ). IsFree run past n) (equal_numbers other number at) (recording_free past event.seat event.what other orderly.0 orderly.1 is)
      new other is false at h old = old h

      by : (o : Option ℕ) → recorded_by past event.what ≡ o → has_number (cons_option o (recorded_of past)) number ≡ true
          → (has_number (recorded_of past) number ≡ true → IsFree run past number) → IsFree run past number
      by None is h old = old h
      by (Some other) is h old = new other is (other == number) refl h old
