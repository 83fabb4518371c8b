-- What was begun is about a goal that stands.
use Rattle.std.proofs.Common.{◌≡◌, ℕ, ◌==◌, Bool, true, false, not, ◌&&◌, List, [], ◌∷◌, length, Some, None, refl, sym, subst, inl, inr, if◌then◌else◌}
use Rattle.std.proofs.lemmas.Option.{same_Some}
use Rattle.pl_lemmas.proofs.Truth.{and_left, and_right}
use Rattle.pl_lemmas.proofs.Numbers.{same_number, equal_numbers}
use Rattle.pl_lemmas.proofs.Each.{IsAmong}
use Rattle.pl_state.specs.declared.goal.Goal.{Goal}
use Rattle.pl_events.specs.declared.event.Event.{Event}
use Rattle.pl_events.specs.declared.event.What.{What}
use Rattle.pl_events.specs.declared.event.What.TheVariants.{Begun}
use Rattle.pl_events.specs.declared.operation.Op.{Op}
use Rattle.pl_events.specs.declared.operation.Op.TheVariants as op
use Rattle.pl_events.specs.declared.operation.Subject.{Subject}
use Rattle.pl_events.specs.declared.operation.Subject.TheVariants as subject
use Rattle.pl_model.specs.declared.decided.Decided.{Decided}
use Rattle.pl_model.specs.declared.errand.Closed.{Closed}
use Rattle.pl_model.specs.declared.errand.Errand.{Errand}
use Rattle.pl_model.specs.declared.fixed.Fixed.{Fixed}
use Rattle.pl_model.specs.declared.work.Work.TheVariants.{Send as to_send}
use Rattle.pl_lemmas.specs.Words.{numbered}
use Rattle.pl_lemmas.proofs.Options.{passing}
use Rattle.pl_model.specs.Decisions.{Turn, number_at, turn_in, turn_of}
use Rattle.pl_model.specs.Due.{asks_check, asks_config, at_turn, is_asked, is_lane_of, is_next_lane, is_read_ready, is_ready_on, is_wanted_op, on_goal, passes_limit, sends_goal}
use Rattle.pl_model.specs.History.{known_of}
use Rattle.pl_model.specs.Known.{Known, goal_at, has_problem, next_turn}
use Rattle.pl_model.specs.Legal.{IsOrderly, MayHappen}
use Rattle.pl_model.specs.Tickets.{begun_of, was_begun}
use Rattle.pl_model_stays.proofs.Lists.Growing.{goals-stay, numbered_more}
use Rattle.pl_model_stays.proofs.Goals.Recorded.{found}

-- a subject is a goal that stands
abbrev pub NamesGoal : Known → Subject → Type 0
NamesGoal known (subject.Goal number) = (goal : Goal) × (goal_at known number ≡ Some goal)
NamesGoal known _ = ⊥

-- so it is if it is a goal
abbrev pub MayName : Known → Subject → Type 0
MayName known (subject.Goal number) = (goal : Goal) × (goal_at known number ≡ Some goal)
MayName known _ = Unit {0}

-- what is checked, made or changed is a goal that stands, and so is what is read, if it is a goal
abbrev pub IsNamed : Known → Op → Type 0
IsNamed known (op.CheckConfig on) = NamesGoal known on
IsNamed known (op.Check on) = NamesGoal known on
IsNamed known (op.Create on) = NamesGoal known on
IsNamed known (op.Update on) = NamesGoal known on
IsNamed known (op.Read on) = MayName known on
IsNamed known _ = Unit {0}

-- the goal of a turn stands under its number
pub turn_goal : (run : Fixed) (answers : List Closed) (goals : List Goal) (decided : List Decided) (turn : Turn)
    → turn_in run answers goals decided ≡ Some turn → numbered goals (number_at turn) ≡ Some turn.goal
turn_goal run answers [] decided turn h = absurd (let e : None ≡ Some turn = h in cc)
turn_goal run answers (goal ∷ earlier) decided turn h =
    by (length earlier == length decided) (turn_goal run answers earlier decided turn) h
  where
    by : (b : Bool) → (turn_in run answers earlier decided ≡ Some turn → numbered earlier (number_at turn) ≡ Some turn.goal)
        → (if b then Some (turn_of run answers earlier decided goal) else turn_in run answers earlier decided) ≡ Some turn
        → numbered (goal ∷ earlier) (number_at turn) ≡ Some turn.goal
    by true rest h =
        subst (λ (it : Turn). numbered (goal ∷ earlier) (number_at it) ≡ Some it.goal)
        (same_Some (turn_of run answers earlier decided goal) turn h) (rw (same_number (length earlier)) refl)
    by false rest h = numbered_more goal earlier (number_at turn) turn.goal (rest h)

module _ (known : Known) where
  named_turn : (on : Subject) (test : Turn → Bool) → at_turn known on test ≡ true → NamesGoal known on
  named_turn (subject.Goal number) test h =
      let it = passing (λ turn. number_at turn == number && test turn) (next_turn known) h in
      let same : number_at it.0 ≡ number = equal_numbers (number_at it.0) number (and_left _ (test it.0) it.2) in (
        it.0.goal,
        subst (λ (n : ℕ). goal_at known n ≡ Some it.0.goal) same
            (turn_goal known.run known.answers known.goals known.decided it.0 it.1),
      )
  named_turn _ test h = absurd (let e : false ≡ true = h in cc)

  named_on : (about : Op) (on : Subject) → on_goal known about on ≡ true → NamesGoal known on
  named_on about (subject.Goal number) h = let it = found known number (sends_goal known number about) h in (it.0, it.2)
  named_on about _ h = absurd (let e : false ≡ true = h in cc)

  named_read : (about : Op) (on : Subject) → is_read_ready known about on ≡ true → MayName known on
  named_read about (subject.Goal number) h = let it = found known number (sends_goal known number about) h in (it.0, it.2)
  named_read about _ h = tt

  wanted_asked : (about : Op) → is_wanted_op known about ≡ true → is_asked known about ≡ true
  wanted_asked about h = and_right (not (was_begun known.history about)) (is_asked known about) h

  -- what is ready on one of the lanes there are is asked
  asked_on : (about : Op) (lane : ℕ) → (not (has_problem known) && is_wanted_op known about && is_lane_of known about lane) ≡ true
      → is_asked known about ≡ true
  asked_on about lane h =
      wanted_asked about (and_right (not (has_problem known)) (is_wanted_op known about) (and_left _ (is_lane_of known about lane) h))

  named_ready : (about : Op) (lane : ℕ) → is_ready_on known about lane ≡ true → IsNamed known about
  named_ready (op.CheckConfig on) lane h =
      named_turn on asks_config (wanted_asked (op.CheckConfig on)
      (and_right (not (has_problem known)) (is_wanted_op known (op.CheckConfig on)) (and_left _ (is_next_lane known lane) h)))
  named_ready (op.Check on) lane h = named_turn on (asks_check known) (asked_on (op.Check on) lane h)
  named_ready (op.Create on) lane h = named_on (op.Create on) on (asked_on (op.Create on) lane h)
  named_ready (op.Update on) lane h = named_on (op.Update on) on (asked_on (op.Update on) lane h)
  named_ready (op.Read on) lane h = named_read (op.Read on) on (asked_on (op.Read on) lane h)
  named_ready _ lane h = tt

module _ (run : Fixed) (event : Event) (past : List Event) where
  names_stay : (on : Subject) → NamesGoal (known_of run past) on → NamesGoal (known_of run (event ∷ past)) on
  names_stay (subject.Goal number) named = (named.0, goals-stay run event past number named.0 named.1)
  names_stay _ named = absurd named

  may_stay : (on : Subject) → MayName (known_of run past) on → MayName (known_of run (event ∷ past)) on
  may_stay (subject.Goal number) named = (named.0, goals-stay run event past number named.0 named.1)
  may_stay _ named = tt

  named_stays : (about : Op) → IsNamed (known_of run past) about → IsNamed (known_of run (event ∷ past)) about
  named_stays (op.CheckConfig on) named = names_stay on named
  named_stays (op.Check on) named = names_stay on named
  named_stays (op.Create on) named = names_stay on named
  named_stays (op.Update on) named = names_stay on named
  named_stays (op.Read on) named = may_stay on named
  named_stays _ named = tt

module _ (run : Fixed) where
  named_step : (seat : ℕ) (past : List Event) (what : What) (errand : Errand) → MayHappen (known_of run past) seat what
      → (IsAmong errand (begun_of past) → IsNamed (known_of run past) errand.op)
      → IsAmong errand (begun_of (record { seat = seat; what = what } ∷ past)) → IsNamed (known_of run past) errand.op
  named_step seat past (Begun ticket lane about) errand may rest (inl same) =
      subst (λ (one : Errand). IsNamed (known_of run past) one.op) (sym same)
      (named_ready (known_of run past) about lane
      (and_left (is_ready_on (known_of run past) about lane) (not (passes_limit (known_of run past) (to_send about))) may.due))
  named_step seat past (Begun ticket lane about) errand may rest (inr there) = rest there
  named_step seat past _ errand may rest there = rest there

  -- what was begun is about a goal that stands
  pub begun-named : (history : List Event) (errand : Errand) → IsOrderly run history → IsAmong errand (begun_of history)
      → IsNamed (known_of run history) errand.op
  begun-named [] errand orderly there = absurd there
  begun-named (event ∷ past) errand orderly there =
      named_stays run event past errand.op
      (named_step event.seat past event.what errand orderly.1 (begun-named past errand orderly.0) there)
