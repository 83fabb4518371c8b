-- Where a provider's inputs were checked, there its first lane is configured.
use Rattle.std.proofs.Common.{◌≡◌, ℕ, ◌==◌, ◌<◌, Bool, true, false, not, ◌&&◌, ◌||◌, List, [], ◌∷◌, length, Option, Some, None, is_some, refl, sym, ◌∙◌, ap, subst, inl, inr, ◌⊎◌, arith, option_map}
use Rattle.std.specs.List.{cons_option, list_any}
use Rattle.std.specs.Option.{option_or}
use Rattle.std.proofs.Math.Bool.{or-true}
use Rattle.std.proofs.lemmas.Option.{same_Some}
use Rattle.pl_lemmas.proofs.Truth.{and_left, and_right}
use Rattle.pl_lemmas.proofs.Numbers.{same_number, equal_numbers}
use Rattle.pl_lemmas.proofs.Options.{passing}
use Rattle.pl_events.specs.declared.event.Event.{Event}
use Rattle.pl_events.specs.declared.event.What.{What}
use Rattle.pl_events.specs.declared.event.What.TheVariants.{Begun, Answered}
use Rattle.pl_events.specs.declared.operation.Op.{Op}
use Rattle.pl_events.specs.declared.operation.Op.TheVariants as op
use Rattle.pl_events.specs.declared.operation.Source.{Source}
use Rattle.pl_events.specs.declared.operation.Source.TheVariants as source
use Rattle.pl_events.specs.declared.operation.Subject.TheVariants as subject
use Rattle.pl_events.specs.declared.reply.Reply.{Reply}
use Rattle.pl_model.specs.declared.errand.Closed.{Closed}
use Rattle.pl_model.specs.declared.errand.Errand.{Errand}
use Rattle.pl_model.specs.declared.fixed.Fixed.{Fixed}
use Rattle.pl_model.specs.declared.work.Work.TheVariants.{Send as to_send}
use Rattle.pl_model.specs.Run.{Pairs}
use Rattle.pl_model.specs.Tickets.{answers_of, begun_of, closed_by, errand_at, errand_of, is_coming, is_configured, is_lost, lane_source, lanes_from, reply_if, reply_to, same_op, was_begun}
use Rattle.pl_model.specs.Decisions.{Turn, checked_in, number_at, turn_in}
use Rattle.pl_model.specs.Due.{asks_config, is_checked_lane, is_due_on, is_next_lane, is_ready_on, may_configure, passes_limit, wants_lane}
use Rattle.pl_model.specs.History.{known_of}
use Rattle.pl_model.specs.Known.{Known, has_problem, is_recorded, next_turn}
use Rattle.pl_model.specs.Legal.{IsOrderly, MayHappen}
use Rattle.pl_model_stays.proofs.Lists.Growing.{numbered_below, run_of}
use Rattle.pl_model_stays.proofs.Operations.Lanes.{checked_source, configured-for, either_true, lane-begins, lane-sourced, lanes-have, on_begun, one-lane, was_begun_on}
use Rattle.pl_model_stays.proofs.Operations.Once.{equal_ops, history_of, not_true, ready_unbegun, both, never_both}
use Rattle.pl_model_stays.proofs.Goals.Recorded.{recorded-held}
use Rattle.pl_model_stays.proofs.Operations.Sourcing.{wants-there}
use Rattle.pl_model_stays.proofs.Goals.Standing.{answers_as, closed_with, turn_number}
use Rattle.pl_model_stays.proofs.Goals.Staying.{errand_sent, recorded-stays, sent_begun}
use Rattle.pl_model_stays.proofs.Operations.Ticketing.{none-lost}

-- the second of two tests passes, where the first is one that fails
second_passes : (a b : Bool) → ((a && false) || b) ≡ true → b ≡ true
second_passes true b h = h
second_passes false b h = h

-- ---- what was begun

pub begun_more : (event : Event) (past : List Event) (about : Op) → was_begun past about ≡ true → was_begun (event ∷ past) about ≡ true
begun_more event past about h = by (errand_of event)
  where
    by : (o : Option Errand) → list_any (λ errand. same_op errand.op about) (cons_option o (begun_of past)) ≡ true
    by None = h
    by (Some errand) = ap (λ (b : Bool). same_op errand.op about || b) h ∙ or-true (same_op errand.op about)

-- what is answered was begun
closed_begun : (past : List Event) (what : What) (closed : Closed) → closed_by past what ≡ Some closed → was_begun past closed.op ≡ true
closed_begun past (Answered ticket said) closed h = by (errand_at past ticket) refl h
  where
    by : (o : Option Errand) → errand_at past ticket ≡ o
        → option_map (closed_with said) (option_map (λ (errand : Errand). errand.op) o) ≡ Some closed → was_begun past closed.op ≡ true
    by None is h = absurd (let e : None ≡ Some closed = h in cc)
    by (Some errand) is h =
        subst (λ (one : Closed). was_begun past one.op ≡ true) (same_Some (closed_with said errand.op) closed h)
        (sent_begun past ticket errand.op (errand_sent past ticket errand is))
closed_begun past _ closed h = absurd (let e : None ≡ Some closed = h in cc)

-- what was replied to was begun
pub replied-begun : (history : List Event) (about : Op) (reply : Reply) → reply_to (answers_of history) about ≡ Some reply
    → was_begun history about ≡ true
replied-begun [] about reply h = absurd (let e : None ≡ Some reply = h in cc)
replied-begun (event ∷ past) about reply h =
    by (closed_by past event.what) refl (λ said before. begun_more event past about (replied-begun past about said before)) h
  where
    new : (closed : Closed) → closed_by past event.what ≡ Some closed
        → ((said : Reply) → reply_to (answers_of past) about ≡ Some said → was_begun (event ∷ past) about ≡ true)
        → (o : Option Reply) → reply_to (answers_of past) about ≡ o → (b : Bool) → same_op closed.op about ≡ b
        → option_or o (reply_if b closed.reply) ≡ Some reply → was_begun (event ∷ past) about ≡ true
    new closed is rest (Some said) first b same h = rest said first
    new closed is rest None first true same h =
        begun_more event past about
        (subst (λ (one : Op). was_begun past one ≡ true) (equal_ops closed.op about same) (closed_begun past event.what closed is))
    new closed is rest None first false same h = absurd (let e : None ≡ Some reply = h in cc)

    by : (o : Option Closed) → closed_by past event.what ≡ o
        → ((said : Reply) → reply_to (answers_of past) about ≡ Some said → was_begun (event ∷ past) about ≡ true)
        → reply_to (cons_option o (answers_of past)) about ≡ Some reply → was_begun (event ∷ past) about ≡ true
    by None is rest h = rest reply h
    by (Some closed) is rest h = new closed is rest (reply_to (answers_of past) about) refl (same_op closed.op about) refl h

-- ---- a provider's inputs are checked before a lane of it is configured otherwise

-- the inputs of a goal that is a provider were checked, or it is recorded
abbrev IsProvided : Fixed → List Event → ℕ → Type 0
IsProvided run history number =
    (was_begun history (op.CheckConfig (subject.Goal number)) ≡ true) ⊎ (is_recorded (known_of run history) number ≡ true)

provided_stays : (run : Fixed) (event : Event) (past : List Event) (number : ℕ) → IsProvided run past number
    → IsProvided run (event ∷ past) number
provided_stays run event past number (inl h) = inl (begun_more event past (op.CheckConfig (subject.Goal number)) h)
provided_stays run event past number (inr h) = inr (recorded-stays run event past number h)

-- the reply that was checked is there
pub checked_there : (o : Option Reply) → is_some (checked_in o) ≡ true → (said : Reply) × (o ≡ Some said)
checked_there None h = absurd (let e : false ≡ true = h in cc)
checked_there (Some said) h = (said, refl)

-- the configuration of a lane is due where its inputs were checked there, or where a lane is to be started
configure_due : (known : Known) (provider : Source) (lane : ℕ) → is_ready_on known (op.Configure provider) lane ≡ true
    → (is_checked_lane known provider lane ≡ true) ⊎ (wants_lane known provider ≡ true)
configure_due known provider lane ready =
    by (either_true (is_checked_lane known provider lane) (wants_lane known provider && is_next_lane known lane)
    (and_right (not (has_problem known)) _ ready))
  where
    by : (is_checked_lane known provider lane ≡ true) ⊎ ((wants_lane known provider && is_next_lane known lane) ≡ true)
        → (is_checked_lane known provider lane ≡ true) ⊎ (wants_lane known provider ≡ true)
    by (inl h) = inl h
    by (inr h) = inr (and_left (wants_lane known provider) (is_next_lane known lane) h)

-- the inputs of a goal whose lane is to be configured after a check were checked
pub checked_lane_begun : (run : Fixed) (past : List Event) (number lane : ℕ)
    → is_checked_lane (known_of run past) (source.Goal number) lane ≡ true
    → was_begun past (op.CheckConfig (subject.Goal number)) ≡ true
checked_lane_begun run past number lane h =
    let known : Known = known_of run past in
    let fields = passing (may_configure known) (checked_in (reply_to known.answers (op.CheckConfig (subject.Goal number))))
    (and_left _ _ (and_left _ _ (and_left _ _ (and_left _ _ h)))) in
    let said = checked_there (reply_to known.answers (op.CheckConfig (subject.Goal number)))
    (ap (λ (o : Option Pairs). is_some o) fields.1) in
    replied-begun past (op.CheckConfig (subject.Goal number)) said.0
    (sym (ap (λ (answers : List Closed). reply_to answers (op.CheckConfig (subject.Goal number))) (answers_as run past)
    ∙ ap (λ (events : List Event). reply_to (answers_of events) (op.CheckConfig (subject.Goal number))) (history_of run past)) ∙ said.1)

due_provided : (run : Fixed) (past : List Event) (number lane : ℕ)
    → is_ready_on (known_of run past) (op.Configure (source.Goal number)) lane ≡ true → IsProvided run past number
due_provided run past number lane ready = by (configure_due (known_of run past) (source.Goal number) lane ready)
  where
    by : (is_checked_lane (known_of run past) (source.Goal number) lane ≡ true) ⊎ (wants_lane (known_of run past) (source.Goal number) ≡ true)
        → IsProvided run past number
    by (inl h) = inl (checked_lane_begun run past number lane h)
    by (inr h) = inr (wants-there (known_of run past) (source.Goal number) h)

-- what is due is ready
due_ready : (known : Known) (about : Op) (lane : ℕ) → is_due_on known about lane ≡ true → is_ready_on known about lane ≡ true
due_ready known about lane due = and_left (is_ready_on known about lane) (not (passes_limit known (to_send about))) due

module _ (run : Fixed) where
  provided_next : (seat : ℕ) (past : List Event) (what : What) (number : ℕ) → MayHappen (known_of run past) seat what
      → (was_begun past (op.Configure (source.Goal number)) ≡ true → IsProvided run past number)
      → was_begun (record { seat = seat; what = what } ∷ past) (op.Configure (source.Goal number)) ≡ true → IsProvided run past number
  provided_next seat past (Begun ticket lane one) number may rest begun = by (same_op one (op.Configure (source.Goal number))) refl begun
    where
      by : (b : Bool) → same_op one (op.Configure (source.Goal number)) ≡ b
          → (b || was_begun past (op.Configure (source.Goal number))) ≡ true → IsProvided run past number
      by true is h =
          due_provided run past number lane
          (subst (λ (about : Op). is_ready_on (known_of run past) about lane ≡ true) (equal_ops one (op.Configure (source.Goal number)) is)
          (due_ready (known_of run past) one lane may.due))
      by false is h = rest h
  provided_next seat past _ number may rest begun = rest begun

  configured_provided : (history : List Event) (number : ℕ) → IsOrderly run history
      → was_begun history (op.Configure (source.Goal number)) ≡ true → IsProvided run history number
  configured_provided [] number orderly h = absurd (let e : false ≡ true = h in cc)
  configured_provided (event ∷ past) number orderly h =
      provided_stays run event past number
      (provided_next event.seat past event.what number orderly.1 (λ before. configured_provided past number orderly.0 before) h)

  -- no check of inputs is due for a goal of which a lane was configured
  check_first : (past : List Event) (number lane : ℕ) → IsOrderly run past
      → is_ready_on (known_of run past) (op.CheckConfig (subject.Goal number)) lane ≡ true
      → was_begun past (op.Configure (source.Goal number)) ≡ true → ⊥
  check_first past number lane orderly ready begun = by (configured_provided past number orderly begun)
    where
      turn : (turn : Turn) × (next_turn (known_of run past) ≡ Some turn) × ((number_at turn == number && asks_config turn) ≡ true)
      turn =
          passing (λ turn. number_at turn == number && asks_config turn) (next_turn (known_of run past))
          (and_right (not (was_begun (known_of run past).history (op.CheckConfig (subject.Goal number)))) _
          (and_right (not (has_problem (known_of run past))) _
          (and_left _ (is_next_lane (known_of run past) lane) ready)))

      by : IsProvided run past number → ⊥
      by (inl h) =
          never_both (was_begun past (op.CheckConfig (subject.Goal number))) h
          (subst (λ (events : List Event). was_begun events (op.CheckConfig (subject.Goal number)) ≡ false) (history_of run past)
          (ready_unbegun (known_of run past) (op.CheckConfig (subject.Goal number)) lane refl ready))
      by (inr h) =
          let there = recorded-held run past number orderly h in
          let low : number < length (known_of run past).decided =
          numbered_below (known_of run past).decided number there.1 there.2.decided in
          let count : number_at turn.0 ≡ length (known_of run past).decided =
          turn_number run (known_of run past).answers (known_of run past).goals (known_of run past).decided turn.0
          (subst (λ (fixed : Fixed). turn_in fixed (known_of run past).answers (known_of run past).goals (known_of run past).decided ≡ Some turn.0)
          (run_of run past) turn.1) in
          let at : number_at turn.0 ≡ number = equal_numbers (number_at turn.0) number (and_left _ (asks_config turn.0) turn.2) in
          omega arith

-- ---- where its inputs were checked, there a provider's lane is configured

module _ (run : Fixed) where
  -- a lane on which inputs were checked is coming, while no lane of its provider is configured
  checked_coming : (past : List Event) (number lane : ℕ) → IsOrderly run past → has_problem (known_of run past) ≡ false
      → was_begun_on past lane (op.CheckConfig (subject.Goal number)) ≡ true
      → was_begun past (op.Configure (source.Goal number)) ≡ false → is_coming past lane ≡ true
  checked_coming past number lane orderly calm checked new =
      both (not (is_configured past lane)) (not (is_lost past lane)) (unconfigured (is_configured past lane) refl)
      (ap (λ (b : Bool). not b) (none-lost run past orderly calm lane))
    where
      unconfigured : (b : Bool) → is_configured past lane ≡ b → not b ≡ true
      unconfigured false is = refl
      unconfigured true is =
          let one = configured-for run past lane orderly is in
          let same : one.0 ≡ source.Goal number =
          same_Some one.0 (source.Goal number)
          (sym (lane-sourced run past lane (op.Configure one.0) one.0 orderly one.1 refl)
          ∙ lane-sourced run past lane (op.CheckConfig (subject.Goal number)) (source.Goal number) orderly checked refl) in
          absurd (never_both (was_begun past (op.Configure (source.Goal number)))
          (subst (λ (own : Source). was_begun past (op.Configure own) ≡ true) same (on_begun past lane (op.Configure one.0) one.1)) new)

  -- the first configuration for a goal is on the lane where its inputs were checked
  first_configured : (past : List Event) (number lane to : ℕ) → IsOrderly run past
      → is_ready_on (known_of run past) (op.Configure (source.Goal number)) to ≡ true
      → was_begun_on past lane (op.CheckConfig (subject.Goal number)) ≡ true
      → was_begun past (op.Configure (source.Goal number)) ≡ false → to ≡ lane
  first_configured past number lane to orderly ready checked new =
      by (configure_due (known_of run past) (source.Goal number) to ready)
    where
      calm : has_problem (known_of run past) ≡ false
      calm = not_true (has_problem (known_of run past)) (and_left _ _ ready)

      begun : (was_begun_on past to (op.Configure (source.Goal number)) ≡ true)
          ⊎ ((other : ℕ) × (source.Goal number ≡ source.Goal other) × (was_begun_on past to (op.CheckConfig (subject.Goal other)) ≡ true))
          → to ≡ lane
      begun (inl h) =
          absurd (never_both (was_begun past (op.Configure (source.Goal number))) (on_begun past to (op.Configure (source.Goal number)) h) new)
      begun (inr h) =
          one-lane run past to lane (op.CheckConfig (subject.Goal number)) orderly refl
          (subst (λ (n : ℕ). was_begun_on past to (op.CheckConfig (subject.Goal n)) ≡ true) (same h.0 h.1) h.2) checked
        where
          same : (other : ℕ) → source.Goal number ≡ source.Goal other → other ≡ number
          same other is = cc

      by : (is_checked_lane (known_of run past) (source.Goal number) to ≡ true) ⊎ (wants_lane (known_of run past) (source.Goal number) ≡ true)
          → to ≡ lane
      by (inl h) =
          begun (lane-begins past to (source.Goal number)
          (subst (λ (events : List Event). lane_source events to ≡ Some (source.Goal number)) (history_of run past)
          (checked_source (known_of run past) (source.Goal number) to h)))
      by (inr h) =
          let none : list_any (is_coming past) (lanes_from past (source.Goal number)) ≡ false =
          subst (λ (events : List Event). list_any (is_coming events) (lanes_from events (source.Goal number)) ≡ false) (history_of run past)
          (not_true _ (and_right _ _ (and_left _ _ h))) in
          absurd (never_both _ (lanes-have past (source.Goal number) (is_coming past) lane
          (lane-sourced run past lane (op.CheckConfig (subject.Goal number)) (source.Goal number) orderly checked refl)
          (checked_coming past number lane orderly calm checked new)) none)

  paired_next : (seat : ℕ) (past : List Event) (what : What) (number lane : ℕ) → IsOrderly run past
      → MayHappen (known_of run past) seat what
      → (was_begun_on past lane (op.CheckConfig (subject.Goal number)) ≡ true
      → was_begun past (op.Configure (source.Goal number)) ≡ true
      → was_begun_on past lane (op.Configure (source.Goal number)) ≡ true)
      → was_begun_on (record { seat = seat; what = what } ∷ past) lane (op.CheckConfig (subject.Goal number)) ≡ true
      → was_begun (record { seat = seat; what = what } ∷ past) (op.Configure (source.Goal number)) ≡ true
      → was_begun_on (record { seat = seat; what = what } ∷ past) lane (op.Configure (source.Goal number)) ≡ true
  paired_next seat past (Begun ticket to one) number lane orderly may rest checked begun =
      by (same_op one (op.CheckConfig (subject.Goal number))) refl (same_op one (op.Configure (source.Goal number))) refl
      (was_begun past (op.Configure (source.Goal number))) refl checked begun
    where
      ready : (about : Op) → same_op one about ≡ true → is_ready_on (known_of run past) about to ≡ true
      ready about is =
          subst (λ (it : Op). is_ready_on (known_of run past) it to ≡ true) (equal_ops one about is)
          (due_ready (known_of run past) one to may.due)

      by : (c : Bool) → same_op one (op.CheckConfig (subject.Goal number)) ≡ c
          → (d : Bool) → same_op one (op.Configure (source.Goal number)) ≡ d
          → (e : Bool) → was_begun past (op.Configure (source.Goal number)) ≡ e
          → (((to == lane) && c) || was_begun_on past lane (op.CheckConfig (subject.Goal number))) ≡ true → (d || e) ≡ true
          → (((to == lane) && d) || was_begun_on past lane (op.Configure (source.Goal number))) ≡ true
      by true is d at true was checked begun =
          absurd (check_first run past number to orderly (ready (op.CheckConfig (subject.Goal number)) is) was)
      by true is true at false was checked begun =
          let e : op.CheckConfig (subject.Goal number) ≡ op.Configure (source.Goal number) =
          sym (equal_ops one (op.CheckConfig (subject.Goal number)) is) ∙ equal_ops one (op.Configure (source.Goal number)) at in
          cc
      by true is false at false was checked begun = absurd (let e : false ≡ true = begun in cc)
      by false is d at true was checked begun =
          ap (λ (b : Bool). ((to == lane) && d) || b) (rest (second_passes (to == lane) _ checked) was) ∙ or-true ((to == lane) && d)
      by false is true at false was checked begun =
          let same : to ≡ lane =
          first_configured past number lane to orderly (ready (op.Configure (source.Goal number)) at)
          (second_passes (to == lane) _ checked) was in
          ap (λ (b : Bool). (b && true) || was_begun_on past lane (op.Configure (source.Goal number)))
          (subst (λ (n : ℕ). (to == n) ≡ true) same (same_number to))
      by false is false at false was checked begun = absurd (let e : false ≡ true = begun in cc)
  paired_next seat past _ number lane orderly may rest checked begun = rest checked begun

  -- once a lane of a provider was configured, the one where its inputs were checked was
  pub checked-paired : (history : List Event) (number lane : ℕ) → IsOrderly run history
      → was_begun_on history lane (op.CheckConfig (subject.Goal number)) ≡ true
      → was_begun history (op.Configure (source.Goal number)) ≡ true
      → was_begun_on history lane (op.Configure (source.Goal number)) ≡ true
  checked-paired [] number lane orderly checked begun = absurd (let e : false ≡ true = begun in cc)
  checked-paired (event ∷ past) number lane orderly checked begun =
      paired_next event.seat past event.what number lane orderly.0 orderly.1
      (λ first second. checked-paired past number lane orderly.0 first second) checked begun
