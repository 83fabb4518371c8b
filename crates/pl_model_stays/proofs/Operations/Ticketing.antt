-- Each ticket has its errand, and without a problem none is lost.
use Rattle.std.proofs.Common.{◌≡◌, ℕ, ◌==◌, ◌<◌, Bool, true, false, not, ◌&&◌, ◌||◌, List, [], ◌∷◌, length, Option, Some, None, refl, sym, ◌∙◌, ap, subst, inl, inr, ◌⊎◌, arith, option_map}
use Rattle.std.specs.List.{list_any}
use Rattle.pl_lemmas.proofs.Truth.{and_right}
use Rattle.pl_lemmas.proofs.Numbers.{same_number, equal_numbers}
use Rattle.pl_lemmas.proofs.Lists.{append_none, map_none}
use Rattle.pl_lemmas.proofs.Each.{IsAmong}
use Rattle.pl_lemmas.proofs.Options.{passing, list_none}
use Rattle.pl_events.specs.declared.event.Event.{Event}
use Rattle.pl_events.specs.declared.event.What.{What}
use Rattle.pl_events.specs.declared.event.What.TheVariants.{Begun, Answered, Lost}
use Rattle.pl_events.specs.declared.reply.Loss.{Loss}
use Rattle.pl_events.specs.declared.reply.Reply.{Reply}
use Rattle.pl_decide.specs.declared.problem.Problem.{Problem}
use Rattle.pl_model.specs.declared.errand.Errand.{Errand}
use Rattle.pl_model.specs.declared.fixed.Fixed.{Fixed}
use Rattle.pl_model.specs.Due.{has_open}
use Rattle.pl_model.specs.History.{known_of}
use Rattle.pl_model.specs.Known.{Known, has_problem}
use Rattle.pl_model.specs.Legal.{IsOrderly, MayHappen, is_seats}
use Rattle.pl_model.specs.Problems.{own_problem, problem_of_loss}
use Rattle.pl_model.specs.Tickets.{begun_of, errand_at, is_closed, is_lost, is_open, is_out, loses, next_ticket, open_errands}
use Rattle.pl_model_stays.proofs.Lists.Among.{any_none, find_among, filter_none, not_false, no_length, none_first}
use Rattle.pl_model_stays.proofs.Lists.Growing.{other_numbers}
use Rattle.pl_model_stays.proofs.Operations.Once.{history_of}

-- ---- where no problem stands

-- where none stands after an event, none stood before, and the event is none by itself
pub calm-before : (run : Fixed) (event : Event) (past : List Event) → has_problem (known_of run (event ∷ past)) ≡ false
    → (has_problem (known_of run past) ≡ false) × (own_problem (known_of run past) event.what ≡ None)
unfolding known_of
calm-before run event past h =
    let parts = append_none _ _ (no_length (known_of run (event ∷ past)).problems h) in
    let made = append_none _ _ (map_none _ _ parts.1) in
    let own = append_none _ _ (append_none _ _ (append_none _ _ made.0).1).1 in (
      ap (λ (problems : List (ℕ × Problem)). not (length problems == 0)) parts.0,
      list_none (own_problem (known_of run past) event.what) own.0,
    )

-- ---- tickets

-- a reply was given to a ticket
abbrev pub WasAnswered : List Event → ℕ → Reply → Type 0
WasAnswered [] ticket said = ⊥
WasAnswered (event ∷ past) ticket said = (event.what ≡ Answered ticket said) ⊎ WasAnswered past ticket said

module _ (run : Fixed) where
  below_step : (seat : ℕ) (past : List Event) (what : What) (errand : Errand) → MayHappen (known_of run past) seat what
      → (IsAmong errand (begun_of past) → errand.ticket < length (begun_of past))
      → IsAmong errand (begun_of (record { seat = seat; what = what } ∷ past))
      → errand.ticket < length (begun_of (record { seat = seat; what = what } ∷ past))
  below_step seat past (Begun ticket lane about) errand may rest (inl same) =
      let next : ticket ≡ length (begun_of past) =
      subst (λ (events : List Event). ticket ≡ next_ticket events) (history_of run past) may.next in
      let own : errand.ticket ≡ ticket = ap (λ (one : Errand). one.ticket) same in
      omega arith
  below_step seat past (Begun ticket lane about) errand may rest (inr there) =
      let less : errand.ticket < length (begun_of past) = rest there in omega arith
  below_step seat past _ errand may rest there = rest there

  -- every ticket is below the next one
  pub ticket-below : (history : List Event) (errand : Errand) → IsOrderly run history → IsAmong errand (begun_of history)
      → errand.ticket < length (begun_of history)
  ticket-below [] errand orderly there = absurd there
  ticket-below (event ∷ past) errand orderly there =
      below_step event.seat past event.what errand orderly.1 (ticket-below past errand orderly.0) there

  errand_step : (seat : ℕ) (past : List Event) (what : What) (ticket : ℕ) (errand : Errand) → IsOrderly run past
      → MayHappen (known_of run past) seat what → errand_at past ticket ≡ Some errand
      → errand_at (record { seat = seat; what = what } ∷ past) ticket ≡ Some errand
  errand_step seat past (Begun own lane about) ticket errand orderly may h =
      let there = find_among (λ one. one.ticket == ticket) (begun_of past) errand h in
      let less : errand.ticket < length (begun_of past) = ticket-below past errand orderly there.0 in
      let next : own ≡ length (begun_of past) =
      subst (λ (events : List Event). own ≡ next_ticket events) (history_of run past) may.next in
      let same : errand.ticket ≡ ticket = equal_numbers errand.ticket ticket there.1 in
      rw (other_numbers ticket own (omega arith)) h
  errand_step seat past _ ticket errand orderly may h = h

  -- a ticket keeps its errand
  pub errand-stays : (event : Event) (past : List Event) (ticket : ℕ) (errand : Errand) → IsOrderly run (event ∷ past)
      → errand_at past ticket ≡ Some errand → errand_at (event ∷ past) ticket ≡ Some errand
  errand-stays event past ticket errand orderly h = errand_step event.seat past event.what ticket errand orderly.0 orderly.1 h

  own_step : (seat : ℕ) (past : List Event) (what : What) (errand : Errand) → IsOrderly run past
      → MayHappen (known_of run past) seat what
      → (IsAmong errand (begun_of past) → errand_at past errand.ticket ≡ Some errand)
      → IsAmong errand (begun_of (record { seat = seat; what = what } ∷ past))
      → errand_at (record { seat = seat; what = what } ∷ past) errand.ticket ≡ Some errand
  own_step seat past (Begun own lane about) errand orderly may rest (inl same) =
      subst (λ (one : Errand). errand_at (record { seat = seat; what = Begun own lane about } ∷ past) one.ticket ≡ Some one)
      (sym same) (rw (same_number own) refl)
  own_step seat past (Begun own lane about) errand orderly may rest (inr there) =
      errand_step seat past (Begun own lane about) errand.ticket errand orderly may (rest there)
  own_step seat past _ errand orderly may rest there = rest there

  -- each errand is that of its ticket
  pub errand-own : (history : List Event) (errand : Errand) → IsOrderly run history → IsAmong errand (begun_of history)
      → errand_at history errand.ticket ≡ Some errand
  errand-own [] errand orderly there = absurd there
  errand-own (event ∷ past) errand orderly there =
      own_step event.seat past event.what errand orderly.0 orderly.1 (errand-own past errand orderly.0) there

  -- without a problem nothing is lost
  never_lost : (past : List Event) (seat ticket : ℕ) (why : Loss) → is_seats (known_of run past) seat ticket ≡ true
      → own_problem (known_of run past) (Lost ticket why) ≡ None → ⊥
  never_lost past seat ticket why mine none =
      let known : Known = known_of run past in
      let it = passing (λ errand. errand.seat == seat) (errand_at known.history ticket)
      (and_right (is_open known.history ticket) _ mine) in
      let e : Some (problem_of_loss it.0.lane why) ≡ None =
      sym (ap (λ (o : Option Errand). option_map (λ (errand : Errand). problem_of_loss errand.lane why) o) it.1) ∙ none in
      cc

  unlost_step : (seat : ℕ) (past : List Event) (what : What) (ticket : ℕ) → MayHappen (known_of run past) seat what
      → own_problem (known_of run past) what ≡ None → loses ticket what ≡ false
  unlost_step seat past (Lost own why) ticket may none = absurd (never_lost past seat own why may none)
  unlost_step seat past _ ticket may none = refl

  unlost : (history : List Event) (ticket : ℕ) → IsOrderly run history → has_problem (known_of run history) ≡ false
      → list_any (λ event. loses ticket event.what) history ≡ false
  unlost [] ticket orderly calm = refl
  unlost (event ∷ past) ticket orderly calm =
      let before = calm-before run event past calm in
      rw (unlost_step event.seat past event.what ticket orderly.1 before.1) (unlost past ticket orderly.0 before.0)

  -- so no lane is
  pub none-lost : (history : List Event) → IsOrderly run history → has_problem (known_of run history) ≡ false
      → (lane : ℕ) → is_lost history lane ≡ false
  none-lost history orderly calm lane =
      any_none (λ errand. errand.lane == lane && list_any (λ event. loses errand.ticket event.what) history) (begun_of history)
      (λ errand there. by errand.ticket (errand.lane == lane))
    where
      by : (ticket : ℕ) (b : Bool) → (b && list_any (λ event. loses ticket event.what) history) ≡ false
      by ticket true = unlost history ticket orderly calm
      by ticket false = refl

  answered_step : (seat : ℕ) (past : List Event) (what : What) (ticket : ℕ) → MayHappen (known_of run past) seat what
      → own_problem (known_of run past) what ≡ None
      → (is_closed past ticket ≡ true → (said : Reply) × WasAnswered past ticket said)
      → is_closed (record { seat = seat; what = what } ∷ past) ticket ≡ true
      → (said : Reply) × WasAnswered (record { seat = seat; what = what } ∷ past) ticket said
  answered_step seat past (Answered own said) ticket may none rest h = by (own == ticket) refl h
    where
      by : (b : Bool) → (own == ticket) ≡ b → (b || is_closed past ticket) ≡ true
          → (other : Reply) × WasAnswered (record { seat = seat; what = Answered own said } ∷ past) ticket other
      by true is h = (said, inl (ap (λ (n : ℕ). Answered n said) (equal_numbers own ticket is)))
      by false is h = let one = rest h in (one.0, inr one.1)
  answered_step seat past (Lost own why) ticket may none rest h = absurd (never_lost past seat own why may none)
  answered_step seat past _ ticket may none rest h = let one = rest h in (one.0, inr one.1)

  -- what is closed was answered
  pub closed_answered : (history : List Event) (ticket : ℕ) → IsOrderly run history → has_problem (known_of run history) ≡ false
      → is_closed history ticket ≡ true → (said : Reply) × WasAnswered history ticket said
  closed_answered [] ticket orderly calm h = absurd (let e : false ≡ true = h in cc)
  closed_answered (event ∷ past) ticket orderly calm h =
      let before = calm-before run event past calm in
      answered_step event.seat past event.what ticket orderly.1 before.1 (closed_answered past ticket orderly.0 before.0) h

-- nothing is open that the history tells of
none_open : (run : Fixed) (history : List Event) → has_open (known_of run history) ≡ false → open_errands history ≡ []
none_open run history closed =
    subst (λ (events : List Event). open_errands events ≡ []) (history_of run history)
    (none_first (open_errands (known_of run history).history) closed)

-- where no ticket is open, no lane is at work
pub none-out : (run : Fixed) (history : List Event) → has_open (known_of run history) ≡ false → (lane : ℕ) → is_out history lane ≡ false
none-out run history closed lane =
    ap (λ (errands : List Errand). list_any (λ errand. errand.lane == lane) errands) (none_open run history closed)

-- where no ticket is open, each errand's is closed
pub closed_errand : (run : Fixed) (history : List Event) → has_open (known_of run history) ≡ false → (errand : Errand)
    → IsAmong errand (begun_of history) → is_closed history errand.ticket ≡ true
closed_errand run history closed errand there =
    not_false (is_closed history errand.ticket)
    (filter_none (λ one. not (is_closed history one.ticket)) (begun_of history) errand
    (none_open run history closed) there)
