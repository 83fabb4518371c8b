-- A provider's lanes are at least as many as the configurations that were begun for it.
use Rattle.std.proofs.Common.{◌≡◌, ℕ, ◌+◌, ◌<◌, ◌≤◌, Bool, true, false, not, ◌&&◌, cond, nat_lt, List, [], ◌∷◌, filter, length, Option, Some, refl, sym, ◌∙◌, ap, subst, inl, inr, ◌⊎◌, arith}
use Rattle.std.proofs.lemmas.Bool.Decides.{nat_tests}
use Rattle.std.specs.List.{list_any}
use Rattle.pl_lemmas.proofs.Truth.{and_left, and_right}
use Rattle.pl_lemmas.proofs.Numbers.{equal_numbers}
use Rattle.pl_events.specs.declared.event.Event.{Event}
use Rattle.pl_events.specs.declared.event.What.{What}
use Rattle.pl_events.specs.declared.event.What.TheVariants.{Begun}
use Rattle.pl_events.specs.declared.operation.Op.{Op}
use Rattle.pl_events.specs.declared.operation.Op.TheVariants as op
use Rattle.pl_events.specs.declared.operation.Source.{Source}
use Rattle.pl_events.specs.declared.operation.Source.TheVariants as source
use Rattle.pl_model.specs.declared.errand.Errand.{Errand}
use Rattle.pl_model.specs.declared.fixed.Fixed.{Fixed}
use Rattle.pl_model.specs.declared.work.Work.TheVariants.{Send as to_send}
use Rattle.pl_model.specs.Due.{is_checked_lane, is_next_lane, is_ready_on, passes_limit, wants_lane}
use Rattle.pl_model.specs.History.{known_of}
use Rattle.pl_model.specs.Known.{Known, has_problem}
use Rattle.pl_model.specs.Left.{times_begun}
use Rattle.pl_model.specs.Legal.{IsOrderly, MayHappen}
use Rattle.pl_model.specs.Tickets.{begun_of, is_lost, is_out, is_source, lane_count, lane_source, lanes_from, same_op, source_begun, was_begun}
use Rattle.pl_model_stays.proofs.Lists.Counting.{range_more, range_no_less}
use Rattle.pl_model_stays.proofs.Operations.Lanes.{checked_source, either_true, lanes-have, next_source, source_is, source_stays}
use Rattle.pl_model_stays.proofs.Operations.Once.{equal_ops, history_of, none_pass, not_true}
use Rattle.pl_model_stays.proofs.Goals.Staying.{same_source_self}

-- ---- what may be configured

-- while a lane is to be configured where a provider's inputs were checked, none of it was
pub checked_new : (known : Known) (provider : Source) (lane : ℕ) → is_checked_lane known provider lane ≡ true
    → was_begun known.history (op.Configure provider) ≡ false
checked_new known (source.Goal number) lane h =
    not_true (was_begun known.history (op.Configure (source.Goal number)))
    (and_right _ (not (was_begun known.history (op.Configure (source.Goal number))))
    (and_left _ (not (is_out known.history lane)) (and_left _ (not (is_lost known.history lane)) h)))
checked_new known (source.Row row) lane h = absurd (let e : false ≡ true = h in cc)

-- the configuration that is due is of the lane where a provider's inputs were checked, or of the next one, which the
-- provider wants
pub configure_cases : (known : Known) (provider : Source) (lane : ℕ) → is_ready_on known (op.Configure provider) lane ≡ true
    → (is_checked_lane known provider lane ≡ true) ⊎ ((wants_lane known provider ≡ true) × (lane ≡ lane_count known.history))
configure_cases known provider lane ready =
    by (either_true (is_checked_lane known provider lane) (wants_lane known provider && is_next_lane known lane)
    (and_right (not (has_problem known)) _ ready))
  where
    by : (is_checked_lane known provider lane ≡ true) ⊎ ((wants_lane known provider && is_next_lane known lane) ≡ true)
        → (is_checked_lane known provider lane ≡ true) ⊎ ((wants_lane known provider ≡ true) × (lane ≡ lane_count known.history))
    by (inl h) = inl h
    by (inr h) = inr (
      and_left (wants_lane known provider) (is_next_lane known lane) h,
      equal_numbers lane (lane_count known.history) (and_right (wants_lane known provider) (is_next_lane known lane) h),
    )

-- a provider that wants a lane has fewer than it may have
pub wants_fewer : (known : Known) (provider : Source) → wants_lane known provider ≡ true
    → length (lanes_from known.history provider) < known.run.parallel
wants_fewer known provider h =
    below (length (lanes_from known.history provider)) known.run.parallel
    (and_right _ (nat_lt (length (lanes_from known.history provider)) known.run.parallel) h)
  where
    below : (a b : ℕ) → nat_lt a b ≡ true → a < b
    below a b h = grind (arith, nat_tests)

-- ---- a provider's lanes

-- they become no fewer
lanes_grow : (seat : ℕ) (what : What) (past : List Event) (wanted : Source)
    → length (lanes_from past wanted) ≤ length (lanes_from (record { seat = seat; what = what } ∷ past) wanted)
lanes_grow seat (Begun ticket lane about) past wanted =
    range_no_less (λ n. is_source (lane_source past n) wanted)
    (λ n. is_source (lane_source (record { seat = seat; what = Begun ticket lane about } ∷ past) n) wanted)
    (λ n is. ap (λ (o : Option Source). is_source o wanted)
    (source_stays seat (Begun ticket lane about) past n wanted (source_is (lane_source past n) wanted is)) ∙ same_source_self wanted)
    0 (lane_count past) (lane_count (record { seat = seat; what = Begun ticket lane about } ∷ past)) (omega arith)
lanes_grow seat _ past wanted = omega arith

-- and more with an operation that makes the next one
lanes_next : (seat ticket : ℕ) (about : Op) (past : List Event) (wanted : Source) → source_begun about ≡ Some wanted
    → length (lanes_from past wanted)
    < length (lanes_from (record { seat = seat; what = Begun ticket (lane_count past) about } ∷ past) wanted)
lanes_next seat ticket about past wanted is =
    range_more (λ n. is_source (lane_source past n) wanted)
    (λ n. is_source (lane_source (record { seat = seat; what = Begun ticket (lane_count past) about } ∷ past) n) wanted)
    (λ n is. ap (λ (o : Option Source). is_source o wanted)
    (source_stays seat (Begun ticket (lane_count past) about) past n wanted (source_is (lane_source past n) wanted is)) ∙ same_source_self wanted)
    0 (lane_count past) (lane_count (record { seat = seat; what = Begun ticket (lane_count past) about } ∷ past)) (lane_count past)
    (omega arith) (omega arith) (omega arith)
    (ap (λ (o : Option Source). is_source o wanted) (next_source seat ticket about past ∙ is) ∙ same_source_self wanted)

some_length : {X : Type 0} (test : X → Bool) (xs : List X) → list_any test xs ≡ true → 0 < length xs
some_length test [] h = absurd (let e : false ≡ true = h in cc)
some_length test (x ∷ xs) h = omega arith

-- ---- orderly histories

module _ (run : Fixed) (provider : Source) where
  abbrev Fits : List Event → Type 0
  Fits history = times_begun history (op.Configure provider) ≤ length (lanes_from history provider)

  -- with one more configuration of the provider
  one_more_lane : (seat ticket lane : ℕ) (past : List Event)
      → is_ready_on (known_of run past) (op.Configure provider) lane ≡ true → Fits past
      → times_begun past (op.Configure provider) + 1
      ≤ length (lanes_from (record { seat = seat; what = Begun ticket lane (op.Configure provider) } ∷ past) provider)
  one_more_lane seat ticket lane past ready before = by (configure_cases (known_of run past) provider lane ready)
    where
      by : (is_checked_lane (known_of run past) provider lane ≡ true)
          ⊎ ((wants_lane (known_of run past) provider ≡ true) × (lane ≡ lane_count (known_of run past).history))
          → times_begun past (op.Configure provider) + 1
          ≤ length (lanes_from (record { seat = seat; what = Begun ticket lane (op.Configure provider) } ∷ past) provider)
      by (inl checked) =
          let none : times_begun past (op.Configure provider) ≡ 0 =
          none_pass (λ errand. same_op errand.op (op.Configure provider)) (begun_of past)
          (subst (λ (events : List Event). was_begun events (op.Configure provider) ≡ false) (history_of run past)
          (checked_new (known_of run past) provider lane checked)) in
          let own : lane_source past lane ≡ Some provider =
          subst (λ (events : List Event). lane_source events lane ≡ Some provider) (history_of run past)
          (checked_source (known_of run past) provider lane checked) in
          let some = some_length (λ n. true) (lanes_from (record { seat = seat; what = Begun ticket lane (op.Configure provider) } ∷ past) provider)
          (lanes-have (record { seat = seat; what = Begun ticket lane (op.Configure provider) } ∷ past) provider (λ n. true) lane
          (source_stays seat (Begun ticket lane (op.Configure provider)) past lane provider own) refl) in
          omega arith
      by (inr wants) =
          let next : lane ≡ lane_count past =
          subst (λ (events : List Event). lane ≡ lane_count events) (history_of run past) wants.1 in
          let more : length (lanes_from past provider)
          < length (lanes_from (record { seat = seat; what = Begun ticket lane (op.Configure provider) } ∷ past) provider) =
          subst (λ (to : ℕ). length (lanes_from past provider)
          < length (lanes_from (record { seat = seat; what = Begun ticket to (op.Configure provider) } ∷ past) provider)) (sym next)
          (lanes_next seat ticket (op.Configure provider) past provider refl) in
          omega arith

  fits_step : (seat : ℕ) (past : List Event) (what : What) → MayHappen (known_of run past) seat what → Fits past
      → Fits (record { seat = seat; what = what } ∷ past)
  fits_step seat past (Begun ticket lane about) may before = by (same_op about (op.Configure provider)) refl
    where
      errand : Errand
      errand = record { ticket = ticket; seat = seat; lane = lane; op = about }

      own : about ≡ op.Configure provider
          → times_begun past (op.Configure provider) + 1
          ≤ length (lanes_from (record { seat = seat; what = Begun ticket lane about } ∷ past) provider)
      own same =
          subst (λ (one : Op). times_begun past (op.Configure provider) + 1
          ≤ length (lanes_from (record { seat = seat; what = Begun ticket lane one } ∷ past) provider)) (sym same)
          (one_more_lane seat ticket lane past
          (subst (λ (one : Op). is_ready_on (known_of run past) one lane ≡ true) same
          (and_left (is_ready_on (known_of run past) about lane) (not (passes_limit (known_of run past) (to_send about))) may.due)) before)

      by : (b : Bool) → same_op about (op.Configure provider) ≡ b
          → length (cond b (errand ∷ filter (λ one. same_op one.op (op.Configure provider)) (begun_of past))
          (filter (λ one. same_op one.op (op.Configure provider)) (begun_of past)))
          ≤ length (lanes_from (record { seat = seat; what = Begun ticket lane about } ∷ past) provider)
      by true is = let more = own (equal_ops about (op.Configure provider) is) in omega arith
      by false is = let more = lanes_grow seat (Begun ticket lane about) past provider in omega arith
  fits_step seat past _ may before = before

  -- a provider has at least as many lanes as configurations of it were begun
  pub lanes-fit : (history : List Event) → IsOrderly run history → Fits history
  lanes-fit [] orderly = omega arith
  lanes-fit (event ∷ past) orderly = fits_step event.seat past event.what orderly.1 (lanes-fit past orderly.0)
