-- Nothing waits in a circle: goal by goal, and row by row from the last one, what is left is due.
use Rattle.std.proofs.Common.{◌≡◌, ℕ, zero, suc, ◌+◌, ◌<◌, ◌≤◌, ◌==◌, Bool, true, false, not, ◌&&◌, ◌||◌, if◌then◌else◌, List, [], length, nat_lt, option_and_then, option_map, slice_get, Option, Some, None, is_none, is_some, refl, sym, ◌∙◌, ap, subst, inl, inr, ◌⊎◌, arith}
use Rattle.std.proofs.lemmas.Bool.Decides.{nat_tests}
use Rattle.std.proofs.lemmas.Option.{slice_get_within}
use Rattle.std.specs.List.{list_all, list_any}
use Rattle.std.proofs.Math.Bool.{or-true}
use Rattle.std.proofs.lemmas.Bool.{or_right}
use Rattle.pl_lemmas.proofs.Truth.{and_left, and_right}
use Rattle.pl_lemmas.proofs.Options.{some_there, row_is}
use Rattle.pl_lemmas.proofs.Numbers.{same_number, numbered_there}
use Rattle.pl_lemmas.specs.Words.{has_number, is_row, none_or, numbered, only_if, some_passes}
use Rattle.pl_lemmas.proofs.Lists.{numbered_passes}
use Rattle.pl_state.specs.Chain.{chain_of, provider_row_of, refers_to}
use Rattle.pl_state.specs.Kinds.{is_provided, is_provider_goal, is_reading_goal}
use Rattle.pl_state.specs.declared.entry.Entry.{Entry}
use Rattle.pl_state.specs.declared.goal.Goal.{Goal}
use Rattle.pl_state.specs.declared.goal.Diffed.{Diffed}
use Rattle.pl_events.specs.declared.event.Event.{Event}
use Rattle.pl_events.specs.declared.operation.Op.{Op}
use Rattle.pl_events.specs.declared.operation.Op.TheVariants as op
use Rattle.pl_events.specs.declared.operation.Source.{Source}
use Rattle.pl_events.specs.declared.operation.Source.TheVariants as source
use Rattle.pl_events.specs.declared.operation.Subject.TheVariants as subject
use Rattle.pl_events.specs.declared.reply.Reply.{Reply}
use Rattle.pl_decide.specs.declared.decision.Decision.{Decision}
use Rattle.pl_decide.specs.declared.decision.Decision.TheVariants as decision
use Rattle.pl_decide.specs.Limited.{is_create_first, is_delete_first, is_refused}
use Rattle.pl_events.specs.Replies.{tells_success}
use Rattle.pl_model.specs.declared.decided.Decided.{Decided}
use Rattle.pl_model.specs.declared.errand.Closed.{Closed}
use Rattle.pl_model.specs.declared.fixed.Fixed.{Fixed}
use Rattle.pl_model.specs.Run.{Pairs, is_destroy, is_preview, is_refresh, rows_of}
use Rattle.pl_model.specs.Asked.{call_of}
use Rattle.pl_model.specs.Claims.{chain_of_claim, chain_of_goal, claimer_of, is_claimed}
use Rattle.pl_model.specs.Decisions.{Turn, change_at, claim_at, decided_by, decided_of, checked_at, checked_in, decided_at, diff_at, diffed_in, is_provider_unknown, needs_check, number_at, turn_in, wants_diff}
use Rattle.pl_model.specs.Due.{asks_check, asks_config, asks_diff, at_turn, for_decided, is_asked, is_carried_out, is_drop_ready, is_keep_ready, is_placed, is_reading, is_removable, is_wanted_op, keeps_goal, op_of_goal, operations_of, provider_recorded, provider_stands, references_recorded, sends_goal, source_of_op, urn_is_free, way_is_free}
use Rattle.pl_model.specs.History.{known_of}
use Rattle.pl_model.specs.Known.{Known, all_recorded, decided_goal, goal_at, host_ended, is_over, is_recorded, next_turn}
use Rattle.pl_model.specs.Problems.{lacks_provider}
use Rattle.pl_model.specs.Recording.{goal_of_op, removed_of}
use Rattle.pl_model.specs.Rows.{has_dependents, is_deleted_first, is_doomed, is_left, is_marked, is_sent, is_taken_out, is_taken_over, is_target, row_at, source_of_goal, source_of_provider, source_of_row, stands_beside, takes_along, was_removed}
use Rattle.pl_model.specs.Tickets.{reply_to, same_op, was_begun, was_configured}
use Rattle.pl_model_stays.specs.Laws.{is_configure}
use Rattle.pl_model_stays.proofs.Goals.Claiming.{claims-allowed, passing_number, was-made}
use Rattle.pl_model_stays.proofs.Lists.Growing.{decided_as, numbered_below, run_of}
use Rattle.pl_model_stays.proofs.Operations.Once.{history_of, left_parts, both}
use Rattle.pl_model_stays.proofs.Goals.Standing.{answers_as}
use Rattle.pl_model_stays.proofs.Goals.Staying.{same_op_self}
use Rattle.pl_model_stays.proofs.Work.Waiting.{above, all_numbers, at_last, carried, check_listed, checked_well, choose_some, claimed_by, config_begun, delete_listed, diff_listed, diff_provided, diffed_well, doomed_left, exact, false_or, inputs_well, kind_asked, kind_goal, kind_listed, kind_source, last_or, left_low, mapped_some, refers_above, sends_listed, true_or, waiting}
use Rattle.pl_model_stays.proofs.Lists.Ranges.{none_in_range, all_in_range}
use Rattle.pl_model_laws.specs.Quiet.{IsAllDone}
use Rattle.pl_model_laws.proofs.Rows.Along.{along-so, left-row}
use Rattle.pl_model_laws.proofs.Rows.Chains.{chain-closed, chain-of-claim, chained-kept}
use Rattle.pl_model_laws.proofs.Rows.Leaving.{claim-gone, claimer_is, known-apart, left_made}
use Rattle.pl_model_laws.proofs.Rows.Removing.{later-now, never-marked}
use Rattle.pl_model_laws.proofs.References.Founding.{some_at}

-- ---- the goals, one after another

-- what holds where no problem stands and nothing is out, due or over the limit, whatever the mode
pub record IsStill (run : Fixed) (history : List Event) : Type 0 where
  pub decided : (n : ℕ) → is_recorded (known_of run history) n ≡ true → is_some (decided_goal (known_of run history) n) ≡ true
  pub replied : (about : Op) → is_configure about ≡ false → was_begun history about ≡ true
      → (reply : Reply) × (reply_to (known_of run history).answers about ≡ Some reply) × (tells_success (call_of about) reply ≡ true)
  pub goal_done : (about : Op) (number : ℕ) → goal_of_op about ≡ Some number → was_begun history about ≡ true
      → is_recorded (known_of run history) number ≡ true
  pub served : (about : Op) (wanted : Source) → source_of_op (known_of run history) about ≡ Some wanted
      → is_wanted_op (known_of run history) about ≡ true → list_any (same_op about) (operations_of (known_of run history)) ≡ true → ⊥
  pub config_served : (n : ℕ) → is_wanted_op (known_of run history) (op.CheckConfig (subject.Goal n)) ≡ true
      → n < length (known_of run history).goals → ⊥
  pub no_keep : (n : ℕ) → is_keep_ready (known_of run history) n ≡ true → n < length (known_of run history).goals → ⊥
  pub unrefused : (n : ℕ) (one : Decided) → decided_goal (known_of run history) n ≡ Some one → is_refused one.decision ≡ false
  pub ready_references : (n : ℕ) (goal : Goal) → ((m : ℕ) → m < n → is_recorded (known_of run history) m ≡ true)
      → goal_at (known_of run history) n ≡ Some goal → references_recorded (known_of run history) goal ≡ true
  pub named : (n : ℕ) (goal : Goal) → goal_at (known_of run history) n ≡ Some goal → is_provided goal ≡ true
      → (m : ℕ) × (goal.provider ≡ Some m) × (m < n)

module _ (run : Fixed) (history : List Event) (still : IsStill run history) where
  abbrev known : Known
  known = known_of run history

  -- what was asked and not begun is wanted
  wanted_so : (about : Op) → was_begun history about ≡ false → is_asked known about ≡ true → is_wanted_op known about ≡ true
  wanted_so about unbegun asked =
      let never : was_begun known.history about ≡ false =
      subst (λ (events : List Event). was_begun events about ≡ false) (sym (history_of run history)) unbegun in
      rw never asked

  -- an operation of a lane that is asked was begun
  begun_so : (about : Op) (wanted : Source) → source_of_op known about ≡ Some wanted → list_any (same_op about) (operations_of known) ≡ true
      → is_asked known about ≡ true → was_begun history about ≡ true
  begun_so about wanted from listed asked = true_or (was_begun history about) (λ unbegun. still.served about wanted from (wanted_so about unbegun asked) listed)

  goal_below : (n : ℕ) (goal : Goal) → goal_at known n ≡ Some goal → n < length known.goals
  goal_below n goal h = numbered_below known.goals n goal h

  -- ---- it is decided

  module _ (n : ℕ) (goal : Goal) (stands : goal_at known n ≡ Some goal) (below : (m : ℕ) → m < n → is_recorded known m ≡ true) where
    -- the source of the operations of a goal that is provided for
    goal_source : is_provided goal ≡ true → (m : ℕ) × (source_of_goal known n ≡ Some (source.Goal m)) × (goal.provider ≡ Some m) × (is_recorded known m ≡ true)
    goal_source provided =
        let own = still.named n goal stands provided in (
          own.0,
          ap (λ (o : Option Goal). option_map source.Goal (option_and_then (λ (it : Goal). it.provider) o)) stands
              ∙ ap (λ (o : Option ℕ). option_map source.Goal o) own.1,
          own.1,
          below own.0 own.2,
        )

    module _ (turn : Turn) (next : next_turn known ≡ Some turn) (whose : turn.goal ≡ goal) (number : number_at turn ≡ n)
        (answers : turn.answers ≡ known.answers) (fixed : turn.run ≡ run) where
      at_its_turn : (test : Turn → Bool) → test turn ≡ true → at_turn known (subject.Goal n) test ≡ true
      at_its_turn test h =
          let here : (number_at turn == n) ≡ true = let e = number in grind (arith, nat_tests) in
          rw next (rw here h)

      recorded_provider : is_provided goal ≡ true → provider_recorded known turn ≡ true
      recorded_provider provided =
          let own = goal_source provided in
          ap (λ (it : Goal). some_passes (is_recorded known) it.provider) whose ∙ ap (λ (o : Option ℕ). some_passes (is_recorded known) o) own.2 ∙ own.3

      -- its check was answered
      checked_so : is_some (checked_at turn) ≡ true
      checked_so = choose_some (is_provider_goal turn.goal) (needs_check turn) _ _ _ config check
        where
          reply_is : (about : Op) (reply : Reply) → reply_to known.answers about ≡ Some reply → reply_to turn.answers about ≡ Some reply
          reply_is about reply h = ap (λ (closed : List Closed). reply_to closed about) answers ∙ h

          provided_too : is_provided turn.goal ≡ true → is_provided goal ≡ true
          provided_too h = subst (λ (it : Goal). is_provided it ≡ true) whose h

          config : is_provider_goal turn.goal ≡ true → is_some (checked_in (reply_to turn.answers (op.CheckConfig (subject.Goal (number_at turn))))) ≡ true
          config is =
              let begun : was_begun history (op.CheckConfig (subject.Goal n)) ≡ true =
              true_or (was_begun history (op.CheckConfig (subject.Goal n))) (λ unbegun. still.config_served n
              (wanted_so (op.CheckConfig (subject.Goal n)) unbegun (at_its_turn asks_config is)) (goal_below n goal stands)) in
              let came = still.replied (op.CheckConfig (subject.Goal n)) refl begun in
              ap (λ (k : ℕ). is_some (checked_in (reply_to turn.answers (op.CheckConfig (subject.Goal k))))) number
              ∙ ap (λ (o : Option Reply). is_some (checked_in o)) (reply_is (op.CheckConfig (subject.Goal n)) came.0 came.1)
              ∙ checked_well came.0 came.2

          check : is_provider_goal turn.goal ≡ false → needs_check turn ≡ true
              → is_some (checked_in (reply_to turn.answers (op.Check (subject.Goal (number_at turn))))) ≡ true
          check is need =
              let provided : is_provided turn.goal ≡ true = and_left (is_provided turn.goal) (not (is_reading_goal turn.goal)) (and_left _ (not (is_provider_unknown turn)) need) in
              let own = goal_source (provided_too provided) in
              let asked : is_asked known (op.Check (subject.Goal n)) ≡ true =
              at_its_turn (asks_check known) (rw need (rw is (recorded_provider (provided_too provided)))) in
              let begun = begun_so (op.Check (subject.Goal n)) (source.Goal own.0) own.1 (check_listed known n (goal_below n goal stands)) asked in
              let came = still.replied (op.Check (subject.Goal n)) refl begun in
              ap (λ (k : ℕ). is_some (checked_in (reply_to turn.answers (op.Check (subject.Goal k))))) number
              ∙ ap (λ (o : Option Reply). is_some (checked_in o)) (reply_is (op.Check (subject.Goal n)) came.0 came.1)
              ∙ inputs_well came.0 came.2

      -- and its diff, if one is wanted
      diffed_so : is_some (checked_at turn) ≡ true → is_some (diff_at turn) ≡ true
      diffed_so checked = by (wants_diff turn) refl
        where
          asked_diff : is_provider_unknown turn ≡ false → wants_diff turn ≡ true
              → is_some (option_map Some (diffed_in (reply_to turn.answers (op.Diff (subject.Goal (number_at turn)))))) ≡ true
          asked_diff is wants =
              let provided : is_provided goal ≡ true = subst (λ (it : Goal). is_provided it ≡ true) whose (diff_provided (claim_at turn) turn.goal (change_at turn) wants) in
              let own = goal_source provided in
              let asked : is_asked known (op.Diff (subject.Goal n)) ≡ true =
              at_its_turn (asks_diff known) (rw checked (rw wants (rw is (recorded_provider provided)))) in
              let begun = begun_so (op.Diff (subject.Goal n)) (source.Goal own.0) own.1 (diff_listed known n (goal_below n goal stands)) asked in
              let came = still.replied (op.Diff (subject.Goal n)) refl begun in
              ap (λ (k : ℕ). is_some (option_map (λ (diff : Diffed). Some diff) (diffed_in (reply_to turn.answers (op.Diff (subject.Goal k)))))) number
              ∙ ap (λ (closed : List Closed). is_some (option_map (λ (diff : Diffed). Some diff) (diffed_in (reply_to closed (op.Diff (subject.Goal n)))))) answers
              ∙ ap (λ (o : Option Reply). is_some (option_map (λ (diff : Diffed). Some diff) (diffed_in o))) came.1
              ∙ mapped_some (diffed_in (Some came.0)) (diffed_well came.0 came.2)

          unknown : wants_diff turn ≡ true → (b : Bool) → is_provider_unknown turn ≡ b → is_some (diff_at turn) ≡ true
          unknown wants true is = rw wants (rw is refl)
          unknown wants false is = rw wants (rw is (asked_diff is wants))

          by : (b : Bool) → wants_diff turn ≡ b → is_some (diff_at turn) ≡ true
          by false wants = rw wants refl
          by true wants = unknown wants (is_provider_unknown turn) refl

      -- so it is decided
      decided_so : decided_at turn ≡ None → ⊥
      decided_so missing = by (checked_at turn) refl (diff_at turn) refl
        where
          by : (checked : Option Pairs) → checked_at turn ≡ checked → (diff : Option (Option Diffed)) → diff_at turn ≡ diff → ⊥
          by None is diff has = let e : false ≡ true = sym (ap (λ (o : Option Pairs). is_some o) is) ∙ checked_so in cc
          by (Some checked) is None has = let e : false ≡ true = sym (ap (λ (o : Option (Option Diffed)). is_some o) has) ∙ diffed_so checked_so in cc
          by (Some checked) is (Some diff) has =
              let e : Some (decided_by turn checked diff) ≡ None =
              sym (ap (λ (o : Option (Option Diffed)). option_map (decided_by turn checked) o) has)
              ∙ sym (ap (λ (o : Option Pairs). option_and_then (λ (it : Pairs). option_map (decided_by turn it) (diff_at turn)) o) is) ∙ missing in cc

  decided_there : (n : ℕ) (goal : Goal) → goal_at known n ≡ Some goal → ((m : ℕ) → m < n → is_recorded known m ≡ true)
      → (one : Decided) × (decided_goal known n ≡ Some one)
  decided_there n goal stands below = by (decided_goal known n) refl
    where
      least : (k : ℕ) → (m : ℕ) → m < k → k ≤ n → m < length known.decided
      least k m low within =
          let there = some_there (decided_goal known m) (still.decided m (below m (omega arith))) in
          numbered_below known.decided m there.0 there.1

      enough : n ≤ length known.decided
      enough = above n (λ m low. least n m low (omega arith))

      here : length known.decided ≡ n → ⊥
      here count =
          let ones : known.decided ≡ decided_of known.run known.answers known.goals =
          decided_as run history ∙ ap (λ (answers : List Closed). decided_of known.run answers known.goals) (sym (answers_as run history)) in
          let at : numbered known.goals (length (decided_of known.run known.answers known.goals)) ≡ Some goal =
          subst (λ (k : ℕ). numbered known.goals k ≡ Some goal) (sym count ∙ ap (λ (all : List Decided). length all) ones) stands in
          let its = waiting known.run known.answers known.goals goal at in
          let next : next_turn known ≡ Some its.turn =
          ap (λ (all : List Decided). turn_in known.run known.answers known.goals all) ones ∙ its.next in
          decided_so n goal stands below its.turn next its.whose
          (its.count ∙ sym (ap (λ (all : List Decided). length all) ones) ∙ count) its.heard (its.fixed ∙ run_of run history) its.undecided

      by : (o : Option Decided) → decided_goal known n ≡ o → (one : Decided) × (decided_goal known n ≡ Some one)
      by (Some one) is = (one, is)
      by None is = absurd (here (exact known.decided n enough is))

  -- ---- it is recorded

  module _ (n : ℕ) (goal : Goal) (one : Decided) (stands : goal_at known n ≡ Some goal) (decided : decided_goal known n ≡ Some one)
      (below : (m : ℕ) → m < n → is_recorded known m ≡ true)
      (free : (is_preview known.run.mode || urn_is_free known goal one) ≡ true) (provider : provider_stands known n goal ≡ true)
      (way : (about : Op) → is_recorded known n ≡ false → op_of_goal known n goal one ≡ Some about → way_is_free known one ≡ true) where
    -- it can be recorded
    placed_so : is_recorded known n ≡ false → is_placed known n goal one ≡ true
    placed_so missing = rw (still.unrefused n one decided) (rw missing (rw (still.ready_references n goal below stands) free))

    found_so : (test : Goal → Decided → Bool) → test goal one ≡ true → for_decided known n test ≡ true
    found_so test h = rw stays (rw decided h)
      where
        stays : goal_at known n ≡ Some goal
        stays = stands

    -- if it needs no operation, it is kept
    kept_so : is_recorded known n ≡ false → op_of_goal known n goal one ≡ None → ⊥
    kept_so missing none =
        still.no_keep n (found_so (keeps_goal known n) (rw (placed_so missing) (rw none provider))) (goal_below n goal stands)

    -- what its operation asks
    sends_so : (about : Op) → is_recorded known n ≡ false → op_of_goal known n goal one ≡ Some about → for_decided known n (sends_goal known n about) ≡ true
    sends_so about missing needs =
        found_so (sends_goal known n about) (rw (placed_so missing) (rw needs (rw (same_op_self about) (way about missing needs))))

    -- which was begun
    sent_so : (about : Op) → is_recorded known n ≡ false → op_of_goal known n goal one ≡ Some about → was_begun history about ≡ true
    sent_so about missing needs =
        let (provided, kind) = carried known n goal one about needs in
        let own = goal_source n goal stands below provided in
        begun_so about (source.Goal own.0) (kind_source known n about kind ∙ own.1) (sends_listed known about n (goal_below n goal stands) (kind_listed n about kind))
        (kind_asked known n about kind (sends_so about missing needs))

    -- so it is recorded, where it is kept or by its operation
    recorded_so : is_recorded known n ≡ true
    recorded_so = true_or (is_recorded known n) (λ missing. by missing (op_of_goal known n goal one) refl)
      where
        by : is_recorded known n ≡ false → (o : Option Op) → op_of_goal known n goal one ≡ o → ⊥
        by missing None is = kept_so missing is
        by missing (Some about) is =
            let done = still.goal_done about n (kind_goal n about (carried known n goal one about is).1) (sent_so about missing is) in
            let e : true ≡ false = sym done ∙ missing in cc

  -- ---- in a preview

  module _ (previews : is_preview run.mode ≡ true) where
    -- the mode is that of the run, whatever happened
    preview : is_preview known.run.mode ≡ true
    preview = ap (λ (fixed : Fixed). is_preview fixed.mode) (run_of run history) ∙ previews

    -- what is only read has nothing in its way
    read_way : (one : Decided) → is_reading one.decision ≡ true → way_is_free known one ≡ true
    read_way one reads = by one.decision refl reads
      where
        by : (choice : Decision) → one.decision ≡ choice → is_reading choice ≡ true → way_is_free known one ≡ true
        by decision.Import is h = rw is refl
        by decision.ReadOnly is h = rw is refl
        by _ is h = absurd (let e : false ≡ true = h in cc)

    -- what is carried out is only read
    foreseen_way : (n : ℕ) (goal : Goal) (one : Decided) (about : Op) → op_of_goal known n goal one ≡ Some about → way_is_free known one ≡ true
    foreseen_way n goal one about needs = by (is_reading one.decision) refl
      where
        not_carried : is_reading one.decision ≡ false → (b : Bool) → is_provided goal ≡ b → is_carried_out known goal one.decision ≡ false
        not_carried other false is = rw is refl
        not_carried other true is = rw is (rw preview (rw other refl))

        none_sent : is_reading one.decision ≡ false → op_of_goal known n goal one ≡ None
        none_sent other = rw (not_carried other (is_provided goal) refl) refl

        by : (b : Bool) → is_reading one.decision ≡ b → way_is_free known one ≡ true
        by true reads = read_way one reads
        by false other = absurd (let e : None ≡ Some about = sym (none_sent other) ∙ needs in cc)

    -- a goal is recorded once those before it are: nothing else is waited for
    foreseen_one : (n : ℕ) (goal : Goal) → goal_at known n ≡ Some goal → ((m : ℕ) → m < n → is_recorded known m ≡ true) → is_recorded known n ≡ true
    foreseen_one n goal stands below =
        let one = decided_there n goal stands below in
        let free : (is_preview known.run.mode || urn_is_free known goal one.0) ≡ true = rw preview refl in
        let provider : provider_stands known n goal ≡ true = rw preview (rw (or-true (not (is_provider_goal goal))) refl) in
        recorded_so n goal one.0 stands one.1 below free provider (λ about missing needs. foreseen_way n goal one.0 about needs)

    -- so all of the first goals are
    foreseen_below : (n : ℕ) → n ≤ length known.goals → (m : ℕ) → m < n → is_recorded known m ≡ true
    foreseen_below zero within m low = absurd (omega arith)
    foreseen_below (suc n) within m low =
        let goal = numbered_there known.goals n (omega arith) in
        let before = foreseen_below n (omega arith) in
        at_last (λ k. is_recorded known k ≡ true) n m low before (foreseen_one n goal.0 goal.1 before)

    -- and all goals
    pub everything_foreseen : all_recorded known ≡ true
    everything_foreseen =
        all_in_range (is_recorded known) 0 (length known.goals)
        (λ n low high. foreseen_below (length known.goals) (omega arith) n (omega arith))

  -- ---- up and destroy

  module _ (real : is_preview run.mode ≡ false) (other : is_refresh run.mode ≡ false)
      (row_done : (row : ℕ) → was_begun history (op.Delete (subject.Row row)) ≡ true → has_number (removed_of history) row ≡ true)
      (configured : (n : ℕ) → was_begun history (op.CheckConfig (subject.Goal n)) ≡ true → n < length known.goals
      → was_configured history (source.Goal n) ≡ true)
      (no_drop : (row : ℕ) → is_drop_ready known row ≡ true → row < length (rows_of run) → ⊥)
      (taken_provided : (n : ℕ) (one : Decided) (row : ℕ) (entry : Entry) → decided_goal known n ≡ Some one
      → is_delete_first one.decision ≡ true → takes_along known row one ≡ true → row_at known row ≡ Some entry
      → is_left known row ≡ true → lacks_provider known row ≡ false)
      (urn_ready : (n : ℕ) (goal : Goal) (one : Decided) → goal_at known n ≡ Some goal → decided_goal known n ≡ Some one
      → ((m : ℕ) → m < n → is_recorded known m ≡ true)
      → ((m : ℕ) (before : Decided) (row : ℕ) → m < n → decided_goal known m ≡ Some before
      → has_number (chain_of_goal run before) row ≡ true → is_left known row ≡ false)
      → urn_is_free known goal one ≡ true)
      (provider_row : (row : ℕ) (entry : Entry) → slice_get (rows_of run) row ≡ Some entry → is_none entry.provider ≡ false
      → (place : ℕ) × (provider_row_of (rows_of run) row ≡ Some place))
      (hosted : (n : ℕ) (goal : Goal) → goal_at known n ≡ Some goal → is_destroy run.mode ≡ false) where
    -- everything of the goals below a number is done
    record Below (n : ℕ) : Type 0 where
      pub recorded : (m : ℕ) → m < n → is_recorded known m ≡ true
      pub gone : (m : ℕ) (one : Decided) (row : ℕ) → m < n → decided_goal known m ≡ Some one
          → has_number (chain_of_goal run one) row ≡ true → is_left known row ≡ false

    -- ---- the rows that it takes along are gone

    base_row : (row : ℕ) (entry : Entry) → slice_get (rows_of run) row ≡ Some entry → row_at known row ≡ Some entry
    base_row row entry is = ap (λ (fixed : Fixed). slice_get (rows_of fixed) row) (run_of run history) ∙ is

    -- a row that is to go, on which no row depends, was deleted or dropped
    row_goes : (row : ℕ) (entry : Entry) → slice_get (rows_of run) row ≡ Some entry → is_doomed known row ≡ true
        → has_dependents known row ≡ false → lacks_provider known row ≡ false → was_removed known row ≡ true
    row_goes row entry here doomed free provided = true_or (was_removed known row) (λ unremoved. by unremoved (is_sent known row) refl)
      where
        at : row_at known row ≡ Some entry
        at = base_row row entry here

        low : row < length (rows_of run)
        low = slice_get_within (rows_of run) row entry here

        low_too : row < length (rows_of known.run)
        low_too = subst (λ (fixed : Fixed). row < length (rows_of fixed)) (sym (run_of run history)) low

        removable : was_removed known row ≡ false → is_removable known row ≡ true
        removable unremoved =
            let live : is_preview known.run.mode ≡ false = ap (λ (fixed : Fixed). is_preview fixed.mode) (run_of run history) ∙ real in
            rw doomed (rw unremoved (rw free (rw live refl)))

        named : is_sent known row ≡ true → is_none entry.provider ≡ false
        named sent =
            ap (λ (o : Option Entry). some_passes (λ (it : Entry). is_none it.provider) o) (sym at)
            ∙ subst (λ (b : Bool). (b && some_passes (λ (it : Entry). is_none it.provider) (row_at known row)) ≡ false) sent provided

        begun : was_removed known row ≡ false → is_sent known row ≡ true → was_begun history (op.Delete (subject.Row row)) ≡ true
        begun unremoved sent =
            let own = provider_row row entry here (named sent) in
            let from : source_of_row known row ≡ Some (source_of_provider known own.0) =
            ap (λ (fixed : Fixed). option_map (source_of_provider known) (provider_row_of (rows_of fixed) row)) (run_of run history)
            ∙ ap (λ (o : Option ℕ). option_map (source_of_provider known) o) own.1 in
            begun_so (op.Delete (subject.Row row)) (source_of_provider known own.0) from (delete_listed known row low_too)
            (both (is_removable known row) (is_sent known row) (removable unremoved) sent)

        by : was_removed known row ≡ false → (b : Bool) → is_sent known row ≡ b → ⊥
        by unremoved false kept =
            no_drop row (both (is_removable known row) (not (is_sent known row)) (removable unremoved) (ap (λ (b : Bool). not b) kept)) low
        by unremoved true sent =
            let removed : was_removed known row ≡ true =
            subst (λ (events : List Event). has_number (removed_of events) row ≡ true) (sym (history_of run history))
            (row_done row (begun unremoved sent)) in
            let e : true ≡ false = sym removed ∙ unremoved in cc

    -- a row that was deleted or dropped is left only where it is held for a goal that is not recorded
    held_so : (row : ℕ) → was_removed known row ≡ true → is_left known row ≡ true → (m : ℕ) × (before : Decided)
        × (decided_goal known m ≡ Some before) × (is_row before.claim row ≡ true) × (is_delete_first before.decision ≡ true)
    held_so row removed left =
        let parts = left_parts (nat_lt row (length (rows_of known.run))) (is_taken_out known row) (is_taken_over known row) left in
        let first : is_deleted_first known row ≡ true =
        true_or (is_deleted_first known row) (λ none.
        let out : is_taken_out known row ≡ true = both (was_removed known row) (not (is_deleted_first known row)) removed (ap (λ (b : Bool). not b) none) in
        let e : true ≡ false = sym out ∙ parts.1 in cc) in
        let found = passing_number (λ (before : Decided). is_delete_first before.decision && is_row before.claim row) known.decided first in
        (found.0, found.1, found.2, and_right (is_delete_first found.1.decision) _ found.3, and_left (is_delete_first found.1.decision) _ found.3)

    -- a held row is not marked
    held_unmarked : (row m : ℕ) (before : Decided) → decided_goal known m ≡ Some before → is_row before.claim row ≡ true
        → is_delete_first before.decision ≡ true → is_marked known row ≡ false
    held_unmarked row m before decided claims first =
        never-marked run history m row before decided claims (first_only before.decision first) history (later-now run history)
      where
        first_only : (choice : Decision) → is_delete_first choice ≡ true → is_create_first choice ≡ false
        first_only (decision.Replace true) h = absurd (let e : false ≡ true = h in cc)
        first_only (decision.Replace false) h = refl
        first_only _ h = absurd (let e : false ≡ true = h in cc)

    -- whether a row is the claim of what is decided, or in its chain
    abbrev IsTaken : Decided → ℕ → Type 0
    IsTaken one row = (is_row one.claim row ≡ true) ⊎ (has_number (chain_of_goal run one) row ≡ true)

    module _ (n : ℕ) (goal : Goal) (one : Decided) (stands : goal_at known n ≡ Some goal) (decided : decided_goal known n ≡ Some one)
        (first : is_delete_first one.decision ≡ true) (below : Below n) where
      -- what is taken by an earlier goal too is marked
      marked_so : (row : ℕ) → has_number (chain_of_goal run one) row ≡ true → is_left known row ≡ true → is_claimed known.decided row ≡ true
          → is_marked known row ≡ true
      marked_so row chained left claimed =
          let (m, before, its, claims) = claimed_by known.decided row claimed in
          claim-gone run history m before row its claims (below.recorded m (chained-kept run history n m row one before decided chained its claims)) left

      takes_so : (row : ℕ) → IsTaken one row → is_left known row ≡ true → takes_along known row one ≡ true
      takes_so row (inl claims) left = both (is_delete_first one.decision) _ first (rw claims refl)
      takes_so row (inr chained) left =
          let there : has_number (chain_of_goal known.run one) row ≡ true =
          ap (λ (fixed : Fixed). has_number (chain_of_goal fixed one) row) (run_of run history) ∙ chained in
          both (is_delete_first one.decision) _ first (or_right (is_row one.claim row) _
          (both (has_number (chain_of_goal known.run one) row) _ there (along-so known row at.0 at.1 (by (is_claimed known.decided row) refl))))
        where
          at : (entry : Entry) × (row_at known row ≡ Some entry)
          at = left-row known row left

          by : (b : Bool) → is_claimed known.decided row ≡ b → (not (is_claimed known.decided row) || is_marked known row) ≡ true
          by false is = rw is refl
          by true is = or_right (not (is_claimed known.decided row)) (is_marked known row) (marked_so row chained left is)

      doomed_so : (row : ℕ) → IsTaken one row → is_left known row ≡ true → is_doomed known row ≡ true
      doomed_so row taken left =
          let reads : is_refresh known.run.mode ≡ false = ap (λ (fixed : Fixed). is_refresh fixed.mode) (run_of run history) ∙ other in
          let up : is_destroy known.run.mode ≡ false = ap (λ (fixed : Fixed). is_destroy fixed.mode) (run_of run history) ∙ hosted n goal stands in
          let any : list_any (takes_along known row) known.decided ≡ true = numbered_passes (takes_along known row) known.decided n one decided (takes_so row taken left) in
          rw left (rw reads (rw up (rw any (or-true (is_over known)))))

      chain_is : (own : ℕ) → one.claim ≡ Some own → chain_of_goal run one ≡ chain_of (rows_of run) own
      chain_is own claim =
          ap (λ (b : Bool). if b then chain_of_claim run one.claim else []) first ∙ ap (λ (o : Option ℕ). chain_of_claim run o) claim

      chain_more : (row later : ℕ) → refers_to (rows_of run) later row ≡ true → later < length (rows_of run) → IsTaken one row
          → has_number (chain_of_goal run one) later ≡ true
      chain_more row later refers low (inl claims) =
          ap (λ (places : List ℕ). has_number places later) (chain_is row (row_is one.claim row claims))
          ∙ chain-closed (rows_of run) row later row refers low (inl refl)
      chain_more row later refers low (inr chained) =
          let (was_first, own, claim, within) = chain-of-claim run one row chained in
          ap (λ (places : List ℕ). has_number places later) (chain_is own claim)
          ∙ chain-closed (rows_of run) own later row refers low (inr within)

      -- a row of them that is left was deleted or dropped, where no later row of the chain is left
      one_removed : (row : ℕ) → IsTaken one row → ((later : ℕ) → row < later → has_number (chain_of_goal run one) later ≡ true → is_left known later ≡ false)
          → is_left known row ≡ true → was_removed known row ≡ true
      one_removed row taken later_gone left =
          let there = some_at (rows_of run) row (left_low run history row left) in
          row_goes row there.0 there.1 (doomed_so row taken left) free
          (taken_provided n one row there.0 decided first (takes_so row taken left) (base_row row there.0 there.1) left)
        where
          further : (later : ℕ) → (refers_to (rows_of run) later row && is_left known later) ≡ true → ⊥
          further later h =
              let refers = and_left (refers_to (rows_of run) later row) (is_left known later) h in
              let stays = and_right (refers_to (rows_of run) later row) (is_left known later) h in
              let above : row < later = refers_above (rows_of run) later row refers in
              let gone : is_left known later ≡ false = later_gone later above (chain_more row later refers (left_low run history later stays) taken) in
              let e : true ≡ false = sym stays ∙ gone in cc

          free : has_dependents known row ≡ false
          free = none_in_range (λ later. refers_to (rows_of known.run) later row && is_left known later) 0 (length (rows_of known.run))
              (λ later low high h. further later (subst (λ (fixed : Fixed). (refers_to (rows_of fixed) later row && is_left known later) ≡ true) (run_of run history) h))

      -- a row of the chain on which no later one of it is left does not stay: it is held for no goal, since the goals
      -- before, which alone may claim it, are recorded
      chain_one : (row : ℕ) → has_number (chain_of_goal run one) row ≡ true
          → ((later : ℕ) → row < later → has_number (chain_of_goal run one) later ≡ true → is_left known later ≡ false) → is_left known row ≡ false
      chain_one row chained later_gone = false_or (is_left known row) (λ left.
          let (m, before, its, claims, holds) = held_so row (one_removed row (inr chained) later_gone left) left in
          let recorded = below.recorded m (chained-kept run history n m row one before decided chained its claims) in
          let e : true ≡ false = sym (claim-gone run history m before row its claims recorded left) ∙ held_unmarked row m before its claims holds in cc)

      -- from the last row on none of the chain is left
      gone_from : (count row : ℕ) → length (rows_of run) ≤ row + count → has_number (chain_of_goal run one) row ≡ true → is_left known row ≡ false
      gone_from zero row end chained = false_or (is_left known row) (λ left. let low = left_low run history row left in omega arith)
      gone_from (suc count) row end chained =
          chain_one row chained (λ later above more. gone_from count later (omega arith) more)

      chain_gone : (row : ℕ) → has_number (chain_of_goal run one) row ≡ true → is_left known row ≡ false
      chain_gone row chained = gone_from (length (rows_of run)) row (omega arith) chained

      -- until the goal is recorded its claim is left, or it was deleted or dropped
      claim_removed : is_recorded known n ≡ false → (row : ℕ) → is_row one.claim row ≡ true → was_removed known row ≡ true
      claim_removed missing row claims = true_or (was_removed known row) (λ unremoved.
          let removed = one_removed row (inl claims) (λ later above more. chain_gone later more) (claim_left missing row claims unremoved) in
          let e : true ≡ false = sym removed ∙ unremoved in cc)
        where
          claim_left : is_recorded known n ≡ false → (row : ℕ) → is_row one.claim row ≡ true → was_removed known row ≡ false → is_left known row ≡ true
          claim_left missing row claims unremoved =
              let allowed = claims-allowed run history n one row (was-made run history n one decided) claims in
              let inside : row < length (rows_of run) = slice_get_within (rows_of run) row allowed.entry allowed.at in
              let low : nat_lt row (length (rows_of run)) ≡ true = grind (arith, nat_tests) in
              let claimer : claimer_of known.decided row ≡ Some n =
              claimer_is run known.decided n row one (known-apart run history) decided claims in
              left_made (nat_lt row (length (rows_of known.run))) (is_taken_out known row) (is_taken_over known row)
              (ap (λ (fixed : Fixed). nat_lt row (length (rows_of fixed))) (run_of run history) ∙ low)
              (ap (λ (b : Bool). b && not (is_deleted_first known row)) unremoved)
              (ap (λ (o : Option ℕ). some_passes (λ goal. not (stands_beside known goal))
              (option_and_then (λ (goal : ℕ). only_if (is_recorded known goal) (Some goal)) o)) claimer
              ∙ ap (λ (b : Bool). some_passes (λ goal. not (stands_beside known goal)) (only_if b (Some n))) missing)

    -- ---- its way is free

    module _ (n : ℕ) (goal : Goal) (one : Decided) (stands : goal_at known n ≡ Some goal) (decided : decided_goal known n ≡ Some one) (below : Below n) where
      claim_gone_so : is_recorded known n ≡ false → is_delete_first one.decision ≡ true → none_or (was_removed known) one.claim ≡ true
      claim_gone_so missing first = by one.claim refl
        where
          by : (o : Option ℕ) → one.claim ≡ o → none_or (was_removed known) o ≡ true
          by None is = refl
          by (Some row) is =
              let claims : is_row one.claim row ≡ true = ap (λ (o : Option ℕ). is_row o row) is ∙ same_number row in
              claim_removed n goal one stands decided first below missing row claims

      way_so : is_recorded known n ≡ false → way_is_free known one ≡ true
      way_so missing = by (is_delete_first one.decision) refl
        where
          by : (b : Bool) → is_delete_first one.decision ≡ b → way_is_free known one ≡ true
          by false is = rw is refl
          by true is =
              let chain : list_all (λ row. not (is_left known row)) (chain_of_goal known.run one) ≡ true =
              subst (λ (fixed : Fixed). list_all (λ row. not (is_left known row)) (chain_of_goal fixed one) ≡ true) (sym (run_of run history))
              (all_numbers (λ row. not (is_left known row)) (chain_of_goal run one)
              (λ row chained. ap (λ (b : Bool). not b) (chain_gone n goal one stands decided is below row chained))) in
              or_right (not (is_delete_first one.decision)) _ (both (none_or (was_removed known) one.claim) _ (claim_gone_so missing is) chain)

      -- a provider is configured, as its inputs were checked
      provider_so : provider_stands known n goal ≡ true
      provider_so = by (is_provider_goal goal) refl
        where
          by : (b : Bool) → is_provider_goal goal ≡ b → provider_stands known n goal ≡ true
          by false is = rw is refl
          by true is =
              let had : was_configured known.history (source.Goal n) ≡ true =
              subst (λ (events : List Event). was_configured events (source.Goal n) ≡ true) (sym (history_of run history))
              (configured n (config_begun run history n goal one stands decided is) (goal_below n goal stands)) in
              rw is (rw had (or-true (is_preview known.run.mode)))

      -- so it is recorded
      done_so : is_recorded known n ≡ true
      done_so =
          let free : urn_is_free known goal one ≡ true = urn_ready n goal one stands decided below.recorded below.gone in
          recorded_so n goal one stands decided below.recorded (or_right (is_preview known.run.mode) _ free) provider_so (λ about missing needs. way_so missing)

    -- ---- all of them

    below_next : (n : ℕ) (goal : Goal) → goal_at known n ≡ Some goal → Below n → Below (suc n)
    below_next n goal stands below =
        let one = decided_there n goal stands below.recorded in
        record {
          recorded = λ m low. at_last (λ k. is_recorded known k ≡ true) n m low below.recorded (done_so n goal one.0 stands one.1 below);
          gone = λ m before row low its chained. gone_last m before row (last_or n m low) its chained;
        }
      where
        gone_last : (m : ℕ) (before : Decided) (row : ℕ) → (m < n) ⊎ (m ≡ n) → decided_goal known m ≡ Some before
            → has_number (chain_of_goal run before) row ≡ true → is_left known row ≡ false
        gone_last m before row (inl earlier) its chained = below.gone m before row earlier its chained
        gone_last m before row (inr same) its chained =
            let here : decided_goal known n ≡ Some before = subst (λ (k : ℕ). decided_goal known k ≡ Some before) same its in
            chain_gone n goal before stands here (chain-of-claim run before row chained).0 below row chained

    below_all : (n : ℕ) → n ≤ length known.goals → Below n
    below_all zero low = record { recorded = λ m below. absurd (omega arith); gone = λ m one row below decided chained. absurd (omega arith) }
    below_all (suc n) low =
        let goal = numbered_there known.goals n (omega arith) in below_next n goal.0 goal.1 (below_all n (omega arith))

    pub everything_recorded : all_recorded known ≡ true
    everything_recorded =
        let below = below_all (length known.goals) (omega arith) in
        all_in_range (is_recorded known) 0 (length known.goals) (λ n low high. below.recorded n (omega arith))

    -- ---- and then the rows

    module _ (ended : host_ended known ≡ true)
        (end_provided : is_over known ≡ true → (row : ℕ) (entry : Entry) → is_doomed known row ≡ true → row_at known row ≡ Some entry → lacks_provider known row ≡ false)
        (end_target : is_over known ≡ true → (later earlier : ℕ) → is_left known later ≡ true → refers_to (rows_of run) later earlier ≡ true
        → is_doomed known earlier ≡ true → is_target known later ≡ true) where
      over : is_over known ≡ true
      over = rw ended everything_recorded

      one_done : (row : ℕ) → ((later : ℕ) → row < later → is_doomed known later ≡ false) → is_doomed known row ≡ false
      one_done row later_done = false_or (is_doomed known row) (λ doomed.
          let left = doomed_left known row doomed in
          let there = some_at (rows_of run) row (left_low run history row left) in
          let removed = row_goes row there.0 there.1 doomed (free doomed) (end_provided over row there.0 doomed (base_row row there.0 there.1)) in
          let (m, before, its, claims, holds) = held_so row removed left in
          let recorded = recorded_all m before its in
          let e : true ≡ false = sym (claim-gone run history m before row its claims recorded left) ∙ held_unmarked row m before its claims holds in cc)
        where
          recorded_all : (m : ℕ) (before : Decided) → decided_goal known m ≡ Some before → is_recorded known m ≡ true
          recorded_all m before its =
              let made = was-made run history m before its in
              (below_all (length known.goals) (omega arith)).recorded m (numbered_below known.goals m made.goal made.stands)

          further : is_doomed known row ≡ true → (later : ℕ) → (refers_to (rows_of run) later row && is_left known later) ≡ true → ⊥
          further doomed later h =
              let refers = and_left (refers_to (rows_of run) later row) (is_left known later) h in
              let stays = and_right (refers_to (rows_of run) later row) (is_left known later) h in
              let target = end_target over later row stays refers doomed in
              let reads : is_refresh known.run.mode ≡ false = ap (λ (fixed : Fixed). is_refresh fixed.mode) (run_of run history) ∙ other in
              let too : is_doomed known later ≡ true = rw stays (rw reads (rw target (rw over refl))) in
              let e : true ≡ false = sym too ∙ later_done later (refers_above (rows_of run) later row refers) in cc

          free : is_doomed known row ≡ true → has_dependents known row ≡ false
          free doomed = none_in_range (λ later. refers_to (rows_of known.run) later row && is_left known later) 0 (length (rows_of known.run))
              (λ later low high h. further doomed later (subst (λ (fixed : Fixed). (refers_to (rows_of fixed) later row && is_left known later) ≡ true) (run_of run history) h))

      done_from : (count row : ℕ) → length (rows_of run) ≤ row + count → is_doomed known row ≡ false
      done_from zero row end = false_or (is_doomed known row) (λ doomed. let low = left_low run history row (doomed_left known row doomed) in omega arith)
      done_from (suc count) row end = one_done row (λ later above. done_from count later (omega arith))

      pub everything_done : IsAllDone known
      everything_done = record { recorded = everything_recorded; none_doomed = λ row. done_from (length (rows_of run)) row (omega arith) }
