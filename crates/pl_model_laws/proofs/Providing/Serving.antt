-- No lane is waited for, where nothing is out, due or over the limit and no problem stands.
use Rattle.std.proofs.Common.{◌≡◌, ℕ, ◌<◌, ◌≤◌, Bool, true, false, not, ◌&&◌, ◌||◌, nat_lt, List, [], ◌∷◌, find, length, Option, Some, None, is_none, is_some, option_and_then, option_map, refl, sym, ◌∙◌, ap, subst, inl, inr, ◌⊎◌, arith}
use Rattle.std.specs.List.{list_any}
use Rattle.std.proofs.lemmas.Option.{same_Some}
use Rattle.std.proofs.lemmas.Bool.{or_right}
use Rattle.pl_lemmas.proofs.Truth.{and_right}
use Rattle.pl_lemmas.proofs.Options.{some_there}
use Rattle.pl_lemmas.proofs.Numbers.{same_number, less_true}
use Rattle.pl_lemmas.proofs.Each.{Each}
use Rattle.pl_value.specs.Inside.{any_field_unknown}
use Rattle.pl_lemmas.specs.Words.{some_passes}
use Rattle.pl_state.specs.declared.goal.Goal.{Goal}
use Rattle.pl_events.specs.declared.event.Event.{Event}
use Rattle.pl_events.specs.declared.operation.Op.{Op}
use Rattle.pl_events.specs.declared.operation.Op.TheVariants as op
use Rattle.pl_events.specs.declared.operation.Source.{Source}
use Rattle.pl_events.specs.declared.operation.Source.TheVariants as source
use Rattle.pl_events.specs.declared.operation.Subject.TheVariants as subject
use Rattle.pl_events.specs.declared.reply.Reply.{Reply}
use Rattle.pl_model.specs.declared.decided.Decided.{Decided}
use Rattle.pl_model.specs.declared.errand.Closed.{Closed}
use Rattle.pl_model.specs.declared.fixed.Fixed.{Fixed}
use Rattle.pl_model.specs.declared.work.Work.TheVariants.{Send as to_send}
use Rattle.pl_model.specs.Run.{HasNames, Pairs, is_preview}
use Rattle.pl_model.specs.Tickets.{answers_of, is_coming, is_configured, is_free, is_lost, is_out, is_source, lane_count, lane_free, lane_source, lanes_from, reply_to, same_op, was_begun, was_configured}
use Rattle.pl_model.specs.Decisions.{checked_in}
use Rattle.pl_model.specs.Due.{IsQuiet, is_asked, is_checked_lane, is_lane_of, is_next_lane, is_ready_on, is_ready_op, is_wanted_op, may_configure, operations_of, passes_limit, source_of_op, wants_lane}
use Rattle.pl_model.specs.History.{known_of}
use Rattle.pl_model.specs.Known.{Known, decided_goal, goal_at, has_problem, is_recorded}
use Rattle.pl_model.specs.Legal.{IsOrderly}
use Rattle.pl_model.specs.Rows.{source_of_goal}
use Rattle.pl_model_stays.proofs.Operations.Configuring.{checked-paired, replied-begun}
use Rattle.pl_model_stays.proofs.Lists.Growing.{numbered_below, run_of}
use Rattle.pl_model_stays.proofs.Operations.Lanes.{begun-on, lane-begins, lane-sourced, lanes-each, lanes-have, on_begun, on_counted, source-begun, was_begun_on, lane-unready}
use Rattle.pl_model_stays.proofs.Operations.Once.{equal_ops, history_of, both, never_both}
use Rattle.pl_model_stays.proofs.Goals.Recorded.{recorded-held}
use Rattle.pl_model_stays.proofs.Operations.Sourcing.{IsSourceThere, asked-source, is_check_config, ordinary-each}
use Rattle.pl_model_stays.proofs.Goals.Standing.{answers_as}
use Rattle.pl_model_stays.proofs.Goals.Staying.{any_more, same_source_self}
use Rattle.pl_model_stays.proofs.Operations.Ticketing.{none-lost, none-out}
use Rattle.pl_model_stays.proofs.Work.Unknowns.{asked-known, check-provider, provider-checked}
use Rattle.pl_model_stays.proofs.Work.Waiting.{config_begun}
use Rattle.pl_model_laws.proofs.Providing.Provided.{providers-provide}
use Rattle.pl_model_laws.proofs.Endings.Replying.{config-came, lane-configured}
use Rattle.pl_model_laws.proofs.Endings.Working.{each_named, no-configure, no-configure-row, no-operation}

-- an operation that is asked and that a lane is there for is ready on it
ready_on : (known : Known) (about : Op) (lane : ℕ) → is_check_config about ≡ false → is_asked known about ≡ true
    → (not (has_problem known) && is_wanted_op known about && is_lane_of known about lane) ≡ true → is_ready_on known about lane ≡ true
ready_on known (op.CheckConfig on) lane other asked h = absurd (let e : true ≡ false = other in cc)
ready_on known (op.Configure provider) lane other asked h = absurd (let e : false ≡ true = asked in cc)
ready_on known _ lane other asked h = h

-- an operation that adds to the count makes a goal's thing or reads it
abbrev AddsOne : Op → Type 0
AddsOne (op.Create about) = Unit
AddsOne (op.Read (subject.Goal number)) = Unit
AddsOne _ = ⊥

added_some : (known : Known) (about : Op) → passes_limit known (to_send about) ≡ true → AddsOne about
added_some known (op.Create about) h = tt
added_some known (op.Read (subject.Goal number)) h = tt
added_some known _ h = let e : false ≡ true = h in cc

module _ (run : Fixed) (history : List Event) (orderly : IsOrderly run history)
    (calm : has_problem (known_of run history) ≡ false) (quiet : IsQuiet (known_of run history)) where
  abbrev known : Known
  known = known_of run history

  -- no lane is out or lost
  not_out : (lane : ℕ) → not (is_out history lane) ≡ true
  not_out lane = ap (λ (b : Bool). not b) (none-out run history quiet.closed lane)

  not_lost : (lane : ℕ) → not (is_lost history lane) ≡ true
  not_lost lane = ap (λ (b : Bool). not b) (none-lost run history orderly calm lane)

  -- a lane on which something was begun is one of those that are counted
  counted : (lane : ℕ) (about : Op) → was_begun_on history lane about ≡ true → lane ≤ lane_count known.history
  counted lane about begun =
      subst (λ (events : List Event). lane ≤ lane_count events) (sym (history_of run history))
      (let low : lane < lane_count history = on_counted history lane about begun in omega arith)

  -- a goal may be configured by its inputs as they were checked
  abbrev MayConfigure : ℕ → Type 0
  MayConfigure number = (fields : Pairs) → checked_in (reply_to known.answers (op.CheckConfig (subject.Goal number))) ≡ Some fields
      → may_configure known fields ≡ true

  -- the lane on which a provider's inputs were checked is to be configured, if no lane of it was
  checked_lane : (number lane : ℕ) → MayConfigure number → was_begun_on history lane (op.CheckConfig (subject.Goal number)) ≡ true
      → was_begun history (op.Configure (source.Goal number)) ≡ false → is_checked_lane known (source.Goal number) lane ≡ true
  checked_lane number lane may checked new =
      subst (λ (events : List Event). (some_passes (may_configure known) (checked_in (reply_to known.answers (op.CheckConfig (subject.Goal number))))
      && is_source (lane_source events lane) (source.Goal number)
      && not (was_begun events (op.Configure (source.Goal number)))
      && not (is_out events lane) && not (is_lost events lane)) ≡ true)
      (sym (history_of run history))
      (both _ _ (both _ _ (both _ _ (both _ _ came sourced) (ap (λ (b : Bool). not b) new)) (not_out lane)) (not_lost lane))
    where
      came : some_passes (may_configure known) (checked_in (reply_to known.answers (op.CheckConfig (subject.Goal number)))) ≡ true
      came =
          let fields = config-came run history orderly calm quiet.closed (subject.Goal number)
          (on_begun history lane (op.CheckConfig (subject.Goal number)) checked) in
          ap (λ (o : Option Pairs). some_passes (may_configure known) o) fields.1 ∙ may fields.0 fields.1

      sourced : is_source (lane_source history lane) (source.Goal number) ≡ true
      sourced =
          ap (λ (o : Option Source). is_source o (source.Goal number))
          (lane-sourced run history lane (op.CheckConfig (subject.Goal number)) (source.Goal number) orderly checked refl)
          ∙ same_source_self (source.Goal number)

  -- so it is configured
  config_configured : (number lane : ℕ) → MayConfigure number → number < length known.goals
      → was_begun_on history lane (op.CheckConfig (subject.Goal number)) ≡ true → is_configured history lane ≡ true
  config_configured number lane may low checked = by (was_begun history (op.Configure (source.Goal number))) refl
    where
      ready : was_begun history (op.Configure (source.Goal number)) ≡ false → is_ready_on known (op.Configure (source.Goal number)) lane ≡ true
      ready new =
          both (not (has_problem known)) _ (ap (λ (b : Bool). not b) calm)
          (ap (λ (b : Bool). b || (wants_lane known (source.Goal number) && is_next_lane known lane)) (checked_lane number lane may checked new))

      by : (b : Bool) → was_begun history (op.Configure (source.Goal number)) ≡ b → is_configured history lane ≡ true
      by true begun =
          lane-configured run history orderly calm quiet.closed lane (source.Goal number)
          (checked-paired run history number lane orderly checked begun)
      by false new =
          absurd (never_both (is_ready_on known (op.Configure (source.Goal number)) lane) (ready new)
          (lane-unready known (op.Configure (source.Goal number)) lane (no-configure known quiet number low)
          (counted lane (op.CheckConfig (subject.Goal number)) checked)))

  -- a run that is no preview configures each provider
  may_really : is_preview run.mode ≡ false → (number : ℕ) → MayConfigure number
  may_really real number fields told =
      let live : is_preview known.run.mode ≡ false = ap (λ (fixed : Fixed). is_preview fixed.mode) (run_of run history) ∙ real in
      rw live refl

  -- and a preview each one of which something is asked
  may_asked : (about : Op) (number : ℕ) → is_check_config about ≡ false → is_asked known about ≡ true
      → source_of_op known about ≡ Some (source.Goal number) → is_recorded known number ≡ true → MayConfigure number
  may_asked about number other asked from recorded fields told = by (is_preview known.run.mode) refl
    where
      said_there : (o : Option Reply) (pairs : Pairs) → checked_in o ≡ Some pairs → is_some o ≡ true
      said_there None pairs h = absurd (let e : None ≡ Some pairs = h in cc)
      said_there (Some said) pairs h = refl

      by : (b : Bool) → is_preview known.run.mode ≡ b → (not (b && any_field_unknown fields)) ≡ true
      by false is = refl
      by true is =
          let held = recorded-held run history number orderly recorded in
          let there = some_there (reply_to known.answers (op.CheckConfig (subject.Goal number))) (said_there _ fields told) in
          let begun : was_begun history (op.CheckConfig (subject.Goal number)) ≡ true =
          replied-begun history (op.CheckConfig (subject.Goal number)) there.0
          (sym (ap (λ (answers : List Closed). reply_to answers (op.CheckConfig (subject.Goal number))) (answers_as run history)
          ∙ ap (λ (events : List Event). reply_to (answers_of events) (op.CheckConfig (subject.Goal number))) (history_of run history)) ∙ there.1) in
          let own = check-provider run number history orderly begun in
          let same : held.1.checked ≡ fields =
          provider-checked run history number own.0 held.1 fields own.1 own.2 held.2.decided told in
          let known_inputs : some_passes (λ one. any_field_unknown one.checked) (decided_goal known number) ≡ false =
          asked-known known is about number other asked from in
          ap (λ (b : Bool). not b)
          (ap (λ (pairs : Pairs). any_field_unknown pairs) (sym same)
          ∙ (sym (ap (λ (o : Option Decided). some_passes (λ one. any_field_unknown one.checked) o) held.2.decided) ∙ known_inputs))

  -- where the run is no preview, a provider whose inputs were checked has a configured lane
  pub provider-configured : is_preview run.mode ≡ false → (number : ℕ) → was_begun history (op.CheckConfig (subject.Goal number)) ≡ true
      → number < length known.goals → was_configured history (source.Goal number) ≡ true
  provider-configured real number begun low =
      let on = begun-on history (op.CheckConfig (subject.Goal number)) begun in
      lanes-have history (source.Goal number) (is_configured history) on.0
      (lane-sourced run history on.0 (op.CheckConfig (subject.Goal number)) (source.Goal number) orderly on.1 refl)
      (config_configured number on.0 (may_really real number) low on.1)

  -- a recorded goal is one of the goals
  recorded_low : (number : ℕ) → is_recorded known number ≡ true → number < length known.goals
  recorded_low number h =
      let there = recorded-held run history number orderly h in numbered_below known.goals number there.0 there.2.stands

  -- each lane of a provider that is there is free, where it may be configured
  lane_is_free : (lane : ℕ) (wanted : Source) → ((number : ℕ) → wanted ≡ source.Goal number → MayConfigure number) → IsSourceThere known wanted → lane_source history lane ≡ Some wanted
      → is_free history lane ≡ true
  lane_is_free lane wanted may there is = both _ _ (both _ _ (by (lane-begins history lane wanted is)) (not_out lane)) (not_lost lane)
    where
      by : (was_begun_on history lane (op.Configure wanted) ≡ true)
          ⊎ ((number : ℕ) × (wanted ≡ source.Goal number) × (was_begun_on history lane (op.CheckConfig (subject.Goal number)) ≡ true))
          → is_configured history lane ≡ true
      by (inl h) = lane-configured run history orderly calm quiet.closed lane wanted h
      by (inr h) =
          config_configured h.0 lane (may h.0 h.1) (recorded_low h.0 (subst (λ (own : Source). IsSourceThere known own) h.1 there)) h.2

  -- no configuration of a lane of a provider that is there is ready
  unready : (wanted : Source) → IsSourceThere known wanted → is_ready_op known (op.Configure wanted) ≡ false
  unready (source.Goal number) there = no-configure known quiet number (recorded_low number there)
  unready (source.Row row) there = no-configure-row known quiet row there

  module _ (names : HasNames run) (some : 0 < run.parallel) (about : Op) (wanted : Source) (is : source_of_op known about ≡ Some wanted)
      (wants : is_wanted_op known about ≡ true) (among : list_any (same_op about) (operations_of known) ≡ true) where
    asked : is_asked known about ≡ true
    asked = and_right (not (was_begun known.history about)) (is_asked known about) wants

    other : is_check_config about ≡ false
    other = each_named (λ (one : Op). is_check_config one ≡ false) about (operations_of known) (ordinary-each known) among

    there : IsSourceThere known wanted
    there = asked-source known about wanted other asked is

    -- its provider may be configured
    may_be : (number : ℕ) → wanted ≡ source.Goal number → MayConfigure number
    may_be number same = may_asked about number other asked (is ∙ ap (λ (one : Source). Some one) same)
        (subst (λ (own : Source). IsSourceThere known own) same there)

    -- there is no lane of its provider, which would be free
    no_lane : (lane : ℕ) → lane_source history lane ≡ Some wanted → ⊥
    no_lane lane own =
        never_both (is_ready_on known about lane)
        (ready_on known about lane other asked
        (both (not (has_problem known) && is_wanted_op known about) (is_lane_of known about lane)
        (both (not (has_problem known)) (is_wanted_op known about) (ap (λ (b : Bool). not b) calm) wants) lane_of))
        (lane-unready known about lane (no-operation known quiet about among)
        (let begun = source-begun history lane wanted own in counted lane begun.0 begun.1))
      where
        sourced : some_passes (λ one. is_source (lane_source history lane) one) (source_of_op known about) ≡ true
        sourced =
            ap (λ (o : Option Source). some_passes (λ one. is_source (lane_source history lane) one) o) is
            ∙ ap (λ (o : Option Source). is_source o wanted) own ∙ same_source_self wanted

        lane_of : is_lane_of known about lane ≡ true
        lane_of =
            subst (λ (events : List Event). (some_passes (λ one. is_source (lane_source events lane) one) (source_of_op known about)
            && is_free events lane) ≡ true) (sym (history_of run history))
            (both _ _ sourced (lane_is_free lane wanted may_be there own))

    -- whether an operation of the provider is wanted that is not over the limit
    abbrev needs : Op → Bool
    needs one = is_source (source_of_op known one) wanted && is_wanted_op known one && not (passes_limit known (to_send one))

    -- nor is one to be started
    no_start : passes_limit known (to_send about) ≡ false → lanes_from history wanted ≡ [] → ⊥
    no_start within none =
        never_both (is_ready_on known (op.Configure wanted) (lane_count known.history))
        (both (not (has_problem known)) _ (ap (λ (b : Bool). not b) calm) start)
        (lane-unready known (op.Configure wanted) (lane_count known.history) (unready wanted there) (omega arith))
      where
        needed : list_any needs (operations_of known) ≡ true
        needed =
            any_more (same_op about) needs
            (λ one same. subst (λ (it : Op). needs it ≡ true) (equal_ops about one same)
            (both (is_source (source_of_op known about) wanted && is_wanted_op known about) _
            (both (is_source (source_of_op known about) wanted) (is_wanted_op known about)
            (ap (λ (o : Option Source). is_source o wanted) is ∙ same_source_self wanted) wants) (ap (λ (b : Bool). not b) within)))
            (operations_of known) among

        fewer : nat_lt (length (lanes_from history wanted)) known.run.parallel ≡ true
        fewer =
            ap (λ (lanes : List ℕ). nat_lt (length lanes) known.run.parallel) none
            ∙ subst (λ (fixed : Fixed). nat_lt 0 fixed.parallel ≡ true) (sym (run_of run history)) (less_true 0 run.parallel some)

        wants_one : wants_lane known wanted ≡ true
        wants_one =
            subst (λ (events : List Event). (list_any needs (operations_of known)
            && is_none (lane_free events wanted)
            && not (list_any (is_coming events) (lanes_from events wanted))
            && nat_lt (length (lanes_from events wanted)) known.run.parallel) ≡ true) (sym (history_of run history))
            (both _ _ (both _ _ (both _ _ needed (ap (λ (lanes : List ℕ). is_none (find (is_free history) lanes)) none))
            (ap (λ (lanes : List ℕ). not (list_any (is_coming history) lanes)) none)) fewer)

        start : (is_checked_lane known wanted (lane_count known.history) || (wants_lane known wanted && is_next_lane known (lane_count known.history))) ≡ true
        start = or_right (is_checked_lane known wanted (lane_count known.history)) _
            (both (wants_lane known wanted) _ wants_one (same_number (lane_count known.history)))

    -- what is over the limit is one of a goal whose provider has a lane
    no_limited : passes_limit known (to_send about) ≡ true → ⊥
    no_limited over = by about refl (added_some known about over)
      where
        provider_of : (n : ℕ) → source_of_goal known n ≡ Some wanted
            → (goal : Goal) × (m : ℕ) × (goal_at known n ≡ Some goal) × (goal.provider ≡ Some m) × (wanted ≡ source.Goal m)
        provider_of n from = at (goal_at known n) refl from
          where
            with_provider : (goal : Goal) → goal_at known n ≡ Some goal → (o : Option ℕ) → goal.provider ≡ o → option_map source.Goal o ≡ Some wanted
                → (it : Goal) × (m : ℕ) × (goal_at known n ≡ Some it) × (it.provider ≡ Some m) × (wanted ≡ source.Goal m)
            with_provider goal is None own h = absurd (let e : None ≡ Some wanted = h in cc)
            with_provider goal is (Some m) own h = (goal, m, is, own, sym (same_Some (source.Goal m) wanted h))

            at : (o : Option Goal) → goal_at known n ≡ o → option_map source.Goal (option_and_then (λ (one : Goal). one.provider) o) ≡ Some wanted
                → (it : Goal) × (m : ℕ) × (goal_at known n ≡ Some it) × (it.provider ≡ Some m) × (wanted ≡ source.Goal m)
            at None is h = absurd (let e : None ≡ Some wanted = h in cc)
            at (Some goal) is h = with_provider goal is goal.provider refl h

        goal_lane : (n : ℕ) → source_of_goal known n ≡ Some wanted → ⊥
        goal_lane n from =
            let (goal, m, stands, provider, same) = provider_of n from in
            let here : is_recorded known m ≡ true = subst (λ (one : Source). IsSourceThere known one) same there in
            let held = recorded-held run history m orderly here in
            let begun = config_begun run history m held.0 held.1 held.2.stands held.2.decided
            (providers-provide run history names orderly n m goal held.0 stands provider held.2.stands) in
            let on = begun-on history (op.CheckConfig (subject.Goal m)) begun in
            no_lane on.0 (lane-sourced run history on.0 (op.CheckConfig (subject.Goal m)) (source.Goal m) orderly on.1 refl
            ∙ ap (λ (one : Source). Some one) (sym same))

        by : (it : Op) → about ≡ it → AddsOne it → ⊥
        by (op.Create (subject.Goal n)) same adds = goal_lane n (ap (λ (one : Op). source_of_op known one) (sym same) ∙ is)
        by (op.Create (subject.Row row)) same adds =
            let e : false ≡ true = ap (λ (one : Op). is_asked known one) (sym same) ∙ asked in cc
        by (op.Create (subject.Pending at)) same adds =
            let e : false ≡ true = ap (λ (one : Op). is_asked known one) (sym same) ∙ asked in cc
        by (op.Read (subject.Goal n)) same adds = goal_lane n (ap (λ (one : Op). source_of_op known one) (sym same) ∙ is)
        by _ same adds = adds

    -- no operation waits for a lane
    pub lanes-serve : ⊥
    lanes-serve = by (lanes_from history wanted) refl (passes_limit known (to_send about)) refl
      where
        by : (lanes : List ℕ) → lanes_from history wanted ≡ lanes → (b : Bool) → passes_limit known (to_send about) ≡ b → ⊥
        by [] none true over = no_limited over
        by [] none false within = no_start within none
        by (lane ∷ more) some_are b is_over =
            no_lane lane (subst (λ (lanes : List ℕ). Each (λ one. lane_source history one ≡ Some wanted) lanes) some_are (lanes-each history wanted)).0
