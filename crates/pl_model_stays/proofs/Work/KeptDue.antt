-- What is due has its ask, and what it changes is there to be pending.
use Rattle.std.proofs.Common.{◌≡◌, ℕ, ◌+◌, ◌==◌, ◌≤◌, ◌<◌, Bool, true, false, not, ◌&&◌, ◌||◌, if◌then◌else◌, List, [], ◌∷◌, find, get_or, length, slice_get, Option, Some, None, is_some, refl, sym, ◌∙◌, ap, subst, inl, inr, ◌⊎◌, arith, option_map, option_and_then}
use Rattle.std.proofs.lemmas.Option.{slice_get_cases, same_Some}
use Rattle.std.specs.List.{enumerate_from}
use Rattle.pl_lemmas.proofs.Truth.{and_left, and_right}
use Rattle.pl_lemmas.proofs.Options.{some_there, passing, row_is}
use Rattle.pl_lemmas.proofs.Numbers.{equal_numbers}
use Rattle.pl_lemmas.specs.Words.{is_row, numbered, some_passes}
use Rattle.pl_state.specs.Kinds.{is_importing_goal, is_provided, is_provider_goal, is_reading_goal, kin_of}
use Rattle.pl_state.specs.declared.entry.Entry.{Entry}
use Rattle.pl_state.specs.declared.goal.Diffed.{Diffed}
use Rattle.pl_state.specs.declared.goal.Goal.{Goal}
use Rattle.pl_state.specs.declared.pending.Pending.{Pending}
use Rattle.pl_events.specs.declared.event.Event.{Event}
use Rattle.pl_events.specs.declared.event.Request.{Request}
use Rattle.pl_events.specs.declared.event.Request.TheVariants.{Register, Outputs, Invoke}
use Rattle.pl_events.specs.declared.event.What.{What}
use Rattle.pl_events.specs.declared.event.What.TheVariants.{Begun}
use Rattle.pl_events.specs.declared.operation.Op.{Op}
use Rattle.pl_events.specs.declared.operation.Op.TheVariants as op
use Rattle.pl_events.specs.declared.operation.Source.{Source}
use Rattle.pl_events.specs.declared.operation.Source.TheVariants as source
use Rattle.pl_events.specs.declared.operation.Subject.{Subject}
use Rattle.pl_events.specs.declared.operation.Subject.TheVariants as subject
use Rattle.pl_events.specs.declared.reply.Reply.{Reply}
use Rattle.pl_decide.specs.Table.{custom_differs, decide, decide_kin, kin_needs_diff}
use Rattle.pl_decide.specs.declared.decision.Decision.{Decision}
use Rattle.pl_decide.specs.declared.decision.Decision.TheVariants as decision
use Rattle.pl_decide.specs.declared.decision.ProviderChange.{ProviderChange}
use Rattle.pl_decide.specs.declared.problem.Problem.TheVariants.{CustomChanged, ReadOverManaged}
use Rattle.pl_model.specs.declared.decided.Decided.{Decided}
use Rattle.pl_model.specs.declared.errand.Closed.{Closed}
use Rattle.pl_model.specs.declared.fixed.Fixed.{Fixed}
use Rattle.pl_model.specs.declared.heard.Heard.{Heard}
use Rattle.pl_model.specs.declared.work.Work.TheVariants.{Send as to_send}
use Rattle.pl_model.specs.Run.{Pairs, imports_of, is_refresh, rows_of}
use Rattle.pl_model.specs.Tickets.{answers_of, reply_to, same_op, was_begun}
use Rattle.pl_model.specs.Asked.{ask_diff, ask_diff_over, ask_invoke, ask_of, provider_inputs, turn_on}
use Rattle.pl_model.specs.Claims.{claimed_row}
use Rattle.pl_model.specs.Decisions.{Turn, change_at, checked_at, checked_in, claim_at, decided_at, decided_by, decided_of, decision_at, diff_at, inputs_at, is_provider_unknown, kin_at, needs_check, number_at, turn_of, wants_diff}
use Rattle.pl_model.specs.Due.{asks_check, asks_config, asks_diff, at_turn, is_asked, is_carried_out, is_checked_lane, is_imported, is_invoke, is_next_lane, is_placed, is_ready_on, is_removable, is_wanted_op, may_configure, op_of_decision, op_of_goal, passes_limit, provider_recorded, sends_goal, wants_lane, way_is_free}
use Rattle.pl_model.specs.Entries.{is_update}
use Rattle.pl_model.specs.History.{known_of}
use Rattle.pl_model.specs.Known.{Known, asked_at, decided_goal, goal_at, has_problem, next_turn, turn_of_goal}
use Rattle.pl_model.specs.Legal.{IsOrderly, MayHappen}
use Rattle.pl_model.specs.Problems.{creates_urn, is_to_read, pending_create}
use Rattle.pl_model.specs.Rows.{goes_with, is_deletable, is_sent, pending_at, row_at}
use Rattle.pl_model.specs.Saves.{is_covered}
use Rattle.pl_model.specs.State.{pending_for}
use Rattle.pl_model_stays.specs.Kept.{DueAsked, DueOpens}
use Rattle.pl_model_stays.proofs.Lists.Among.{any_found}
use Rattle.pl_model_stays.proofs.Goals.Claiming.{decided_parts, final_fails, found_at, was-made}
use Rattle.pl_model_stays.proofs.Operations.Configuring.{replied-begun}
use Rattle.pl_model_stays.proofs.Lists.Growing.{Grown, decided_as, length_added, run_of, decided-grown}
use Rattle.pl_model_stays.proofs.Operations.Lanes.{either_true}
use Rattle.pl_model_stays.proofs.Operations.Once.{equal_ops, history_of}
use Rattle.pl_model_stays.proofs.Goals.Recorded.{asked_on, found, recorded-held}
use Rattle.pl_model_stays.proofs.Operations.Sourcing.{IsSourceThere, wants-there}
use Rattle.pl_model_stays.proofs.Goals.Standing.{answers_as, turn_number}
use Rattle.pl_model_stays.proofs.Work.Unknowns.{check-provider}
use Rattle.pl_model_stays.proofs.Work.Waiting.{diff_provided, exact, waiting}

-- ---- an update has its kin

-- without a kin the table does not change a thing
table_not_update : (claim : Option Entry) (goal : Goal) (change : ProviderChange) (checked : Pairs) (diff : Option Diffed)
    → kin_of claim ≡ None → is_update (decide claim goal change checked diff) ≡ false
table_not_update claim goal change checked diff none =
    ap (λ (kin : Option Entry). is_update (if is_reading_goal goal
    then (if is_some kin then decision.Refused (ReadOverManaged goal.urn) else decision.ReadOnly)
    else (if custom_differs claim goal then decision.Refused (CustomChanged goal.urn)
    else decide_kin kin goal change checked diff))) none
    ∙ by (is_reading_goal goal) (custom_differs claim goal) (is_importing_goal goal)
  where
    by : (reading differs importing : Bool)
        → is_update (if reading then decision.ReadOnly else (if differs then decision.Refused (CustomChanged goal.urn)
        else (if importing then decision.Import else decision.Create))) ≡ false
    by true differs importing = refl
    by false true importing = refl
    by false false true = refl
    by false false false = refl

-- what is decided to be changed has its kin
abbrev pub HasKin : Fixed → Decided → Type 0
HasKin run one = is_update one.decision ≡ true → is_some (kin_of (claimed_row run one.claim)) ≡ true

decided_kin : (turn : Turn) (checked : Pairs) (diff : Option Diffed) → HasKin turn.run (decided_by turn checked diff)
decided_kin turn checked diff h = by (kin_of (claim_at turn)) refl
  where
    by : (o : Option Entry) → kin_of (claim_at turn) ≡ o → is_some (kin_of (claim_at turn)) ≡ true
    by (Some kin) is = ap (λ (o : Option Entry). is_some o) is
    by None is =
        let none : is_update (decision_at turn checked diff) ≡ false =
        final_fails is_update turn (decide (claim_at turn) turn.goal (change_at turn) checked diff) (λ problem. refl)
        (table_not_update (claim_at turn) turn.goal (change_at turn) checked diff is) in
        absurd (let e : true ≡ false = sym h ∙ none in cc)

pub update_kin : (run : Fixed) (history : List Event) (number : ℕ) (one : Decided)
    → decided_goal (known_of run history) number ≡ Some one → HasKin (known_of run history).run one
update_kin run history number one h =
    let made = was-made run history number one h in
    let turn : Turn = turn_of run (answers_of (known_of run history).history) made.earlier made.before made.goal in
    let parts = decided_parts turn one made.made in
    subst (λ (fixed : Fixed). HasKin fixed one) (sym (run_of run history))
    (subst (λ (it : Decided). HasKin run it) parts.2 (decided_kin turn parts.0 parts.1))

-- ---- what a turn asks

-- a diff that is wanted is over the kin
kin_there : (o : Option Entry) (goal : Goal) (change : ProviderChange) → kin_needs_diff o goal change ≡ true → is_some o ≡ true
kin_there None goal change h = absurd (let e : false ≡ true = h in cc)
kin_there (Some kin) goal change h = refl

module _ (known : Known) where
  turn_there : (number : ℕ) (test : Turn → Bool) → at_turn known (subject.Goal number) test ≡ true
      → (turn : Turn) × (turn_of_goal known number ≡ Some turn) × (test turn ≡ true)
  turn_there number test h =
      let it = passing (λ turn. number_at turn == number && test turn) (next_turn known) h in (
        it.0,
        ap (λ (o : Option Turn). option_and_then (λ (turn : Turn). if number_at turn == number then Some turn else None) o) it.1
            ∙ ap (λ (b : Bool). if b then Some it.0 else None) (and_left _ (test it.0) it.2),
        and_right (number_at it.0 == number) (test it.0) it.2,
      )

  -- the turn at which something is asked is there
  asks_turn : (on : Subject) (test : Turn → Bool) → at_turn known on test ≡ true
      → (turn : Turn) × (turn_on known on ≡ Some turn) × (test turn ≡ true)
  asks_turn (subject.Goal number) test h = turn_there number test h
  asks_turn (subject.Row row) test h = absurd (let e : false ≡ true = h in cc)
  asks_turn (subject.Pending at) test h = absurd (let e : false ≡ true = h in cc)

  diff_there : (turn : Turn) → asks_diff known turn ≡ true → is_some (ask_diff turn) ≡ true
  diff_there turn h =
      let both : (is_some (checked_at turn) && wants_diff turn) ≡ true =
      and_left _ (not (is_provider_unknown turn)) (and_left _ (provider_recorded known turn) h) in
      let checked = some_there (checked_at turn) (and_left (is_some (checked_at turn)) (wants_diff turn) both) in
      let wants : wants_diff turn ≡ true = and_right (is_some (checked_at turn)) (wants_diff turn) both in
      let kin = some_there (kin_at turn) (kin_there (kin_at turn) turn.goal (change_at turn)
      (and_right (not (is_reading_goal turn.goal) && not (custom_differs (claim_at turn) turn.goal)) _ wants)) in
      ap (λ (o : Option Pairs). is_some (option_and_then (λ (fields : Pairs). option_map (ask_diff_over turn fields) (kin_at turn)) o)) checked.1
      ∙ ap (λ (o : Option Entry). is_some (option_map (ask_diff_over turn checked.0) o)) kin.1

  -- ---- what a decided goal asks

  -- what is asked of a goal and of what is decided of it is there where both are
  both_there : {X : Type 0} (number : ℕ) (goal : Goal) (one : Decided) (asked : Goal → Decided → Option X)
      → goal_at known number ≡ Some goal → decided_goal known number ≡ Some one → is_some (asked goal one) ≡ true
      → is_some (option_and_then (λ (it : Goal). option_and_then (asked it) (decided_goal known number)) (goal_at known number)) ≡ true
  both_there number goal one asked stands decided h =
      ap (λ (o : Option Goal). is_some (option_and_then (λ (it : Goal). option_and_then (asked it) (decided_goal known number)) o)) stands
      ∙ ap (λ (o : Option Decided). is_some (option_and_then (asked goal) o)) decided ∙ h

  -- the operation of a goal that changes a thing is that of a decision to change it
  needs_update : (number : ℕ) (b : Bool) (choice : Decision)
      → some_passes (same_op (op.Update (subject.Goal number))) (if b then op_of_decision number choice else None) ≡ true
      → is_update choice ≡ true
  needs_update number false choice h = absurd (let e : false ≡ true = h in cc)
  needs_update number true decision.Update h = refl
  needs_update number true decision.Keep h = absurd (let e : false ≡ true = h in cc)
  needs_update number true decision.Create h = absurd (let e : false ≡ true = h in cc)
  needs_update number true (decision.Replace first) h = absurd (let e : false ≡ true = h in cc)
  needs_update number true decision.Import h = absurd (let e : false ≡ true = h in cc)
  needs_update number true decision.ReadOnly h = absurd (let e : false ≡ true = h in cc)
  needs_update number true (decision.Refused problem) h = absurd (let e : false ≡ true = h in cc)

  -- what a goal needs is what is decided of it
  sends_need : (number : ℕ) (about : Op) (goal : Goal) (one : Decided) → sends_goal known number about goal one ≡ true
      → some_passes (same_op about) (op_of_goal known number goal one) ≡ true
  sends_need number about goal one h =
      and_right (is_placed known number goal one) _ (and_left _ (way_is_free known one) h)

  -- ---- rows and pending operations

  -- what is imported is pending
  pub imported_there : (at : ℕ) → is_imported known at ≡ true → (pending : Pending) × (pending_at known at ≡ Some pending)
  imported_there at h =
      let pair = any_found (λ pair. is_row (pending_create known.run pair.1) at) (imports_of known.run.mode) h in
      by pair.0.1 (find (λ one. creates_urn pair.0.1 one.1) (enumerate_from 0 known.run.base.pending)) refl
      (row_is (pending_create known.run pair.0.1) at pair.2)
    where
      by : (urn : List ℕ) (o : Option (ℕ × Pending)) → find (λ one. creates_urn urn one.1) (enumerate_from 0 known.run.base.pending) ≡ o
          → option_map (λ (found : ℕ × Pending). found.0) o ≡ Some at → (pending : Pending) × (pending_at known at ≡ Some pending)
      by urn None is h = absurd (let e : None ≡ Some at = h in cc)
      by urn (Some found) is h =
          let place = found_at (λ one. creates_urn urn one.1) 0 known.run.base.pending found is in
          let number : found.0 ≡ at = same_Some found.0 at h in
          let k : ℕ = place.0 in
          let far : found.0 ≡ 0 + k = place.2 in
          let same : k ≡ at = omega arith in
          (found.1, subst (λ (n : ℕ). slice_get known.run.base.pending n ≡ Some found.1) same place.3)

  invoke_there : (asked : Heard) → is_invoke known asked.request asked.about ≡ true → is_some (ask_invoke asked.request) ≡ true
  invoke_there asked h = by asked.request asked.about h
    where
      by : (request : Request) (about : Option ℕ) → is_invoke known request about ≡ true → is_some (ask_invoke request) ≡ true
      by (Invoke n token args provider version) about h = refl
      by (Register n told) about h = absurd (let e : false ≡ true = h in cc)
      by (Outputs n urn outputs) about h = absurd (let e : false ≡ true = h in cc)

  -- ---- all that is asked

  module _ (kin : (number : ℕ) (one : Decided) → decided_goal known number ≡ Some one → HasKin known.run one) where
    asked_there : (about : Op) → is_asked known about ≡ true → is_some (ask_of known about) ≡ true
    asked_there (op.CheckConfig on) h = let it = asks_turn on asks_config h in rw it.1 refl
    asked_there (op.Configure provider) h = absurd (let e : false ≡ true = h in cc)
    asked_there (op.Check on) h = let it = asks_turn on (asks_check known) h in rw it.1 refl
    asked_there (op.Diff on) h =
        let it = asks_turn on (asks_diff known) h in
        ap (λ (o : Option Turn). is_some (option_and_then ask_diff o)) it.1 ∙ diff_there it.0 it.2
    asked_there (op.Create (subject.Goal number)) h =
        let it = found known number (sends_goal known number (op.Create (subject.Goal number))) h in
        both_there number it.0 it.1 _ it.2 it.3 refl
    asked_there (op.Create (subject.Row row)) h = absurd (let e : false ≡ true = h in cc)
    asked_there (op.Create (subject.Pending at)) h = absurd (let e : false ≡ true = h in cc)
    asked_there (op.Update (subject.Goal number)) h =
        let it = found known number (sends_goal known number (op.Update (subject.Goal number))) h in
        let updates : is_update it.1.decision ≡ true =
        needs_update number (is_carried_out known it.0 it.1.decision) it.1.decision
        (sends_need number (op.Update (subject.Goal number)) it.0 it.1 it.4) in
        let its = some_there (kin_of (claimed_row known.run it.1.claim)) (kin number it.1 it.3 updates) in
        both_there number it.0 it.1 _ it.2 it.3 (rw its.1 refl)
    asked_there (op.Update (subject.Row row)) h = absurd (let e : false ≡ true = h in cc)
    asked_there (op.Update (subject.Pending at)) h = absurd (let e : false ≡ true = h in cc)
    asked_there (op.Delete (subject.Row row)) h =
        let sent : is_sent known row ≡ true = and_right (is_removable known row) (is_sent known row) h in
        let it = passing (λ entry. is_deletable entry && not entry.pending_replacement) (row_at known row)
        (and_left _ (not (goes_with known row)) sent) in
        rw it.1 refl
    asked_there (op.Delete (subject.Goal number)) h = absurd (let e : false ≡ true = h in cc)
    asked_there (op.Delete (subject.Pending at)) h = absurd (let e : false ≡ true = h in cc)
    asked_there (op.Read (subject.Goal number)) h =
        let it = found known number (sends_goal known number (op.Read (subject.Goal number))) h in
        both_there number it.0 it.1 _ it.2 it.3 refl
    asked_there (op.Read (subject.Row row)) h =
        let it = passing is_to_read (row_at known row) (and_right (is_refresh known.run.mode) _ h) in rw it.1 refl
    asked_there (op.Read (subject.Pending at)) h =
        let it = imported_there at (and_right (is_refresh known.run.mode) (is_imported known at) h) in rw it.1 refl
    asked_there (op.Invoke n) h =
        let it = passing (λ asked. is_invoke known asked.request asked.about) (asked_at known n) h in
        ap (λ (o : Option Heard). is_some (option_and_then (λ (asked : Heard). ask_invoke asked.request) o)) it.1
        ∙ invoke_there it.0 it.2

  -- what is asked and changes a thing opens what is pending
  asked_opens : (about : Op) → is_asked known about ≡ true → is_covered about ≡ true → is_some (pending_for known about) ≡ true
  asked_opens (op.Create (subject.Goal number)) h covered =
      let it = found known number (sends_goal known number (op.Create (subject.Goal number))) h in
      rw (it.2, it.3) refl
  asked_opens (op.Create (subject.Row row)) h covered = absurd (let e : false ≡ true = h in cc)
  asked_opens (op.Create (subject.Pending at)) h covered = absurd (let e : false ≡ true = h in cc)
  asked_opens (op.Update (subject.Goal number)) h covered =
      let it = found known number (sends_goal known number (op.Update (subject.Goal number))) h in
      rw (it.2, it.3) refl
  asked_opens (op.Update (subject.Row row)) h covered = absurd (let e : false ≡ true = h in cc)
  asked_opens (op.Update (subject.Pending at)) h covered = absurd (let e : false ≡ true = h in cc)
  asked_opens (op.Delete (subject.Row row)) h covered =
      let sent : is_sent known row ≡ true = and_right (is_removable known row) (is_sent known row) h in
      let it = passing (λ entry. is_deletable entry && not entry.pending_replacement) (row_at known row)
      (and_left _ (not (goes_with known row)) sent) in
      rw it.1 refl
  asked_opens (op.Delete (subject.Goal number)) h covered = absurd (let e : false ≡ true = h in cc)
  asked_opens (op.Delete (subject.Pending at)) h covered = absurd (let e : false ≡ true = h in cc)
  asked_opens _ h covered = absurd (let e : false ≡ true = covered in cc)

-- ---- a provider whose inputs were checked is decided

module _ (run : Fixed) (number : ℕ) where
  abbrev check : Op
  check = op.CheckConfig (subject.Goal number)

  abbrev Reached : List Event → Type 0
  Reached history = number ≤ length (known_of run history).decided

  grown_count : (event : Event) (past : List Event) → Reached past → Reached (event ∷ past)
  grown_count event past h =
      let grown : Grown (known_of run past).decided (known_of run (event ∷ past)).decided = decided-grown run event past in
      let count : length (known_of run (event ∷ past)).decided ≡ length grown.0 + length (known_of run past).decided =
      ap (λ (ones : List Decided). length ones) grown.1 ∙ length_added grown.0 (known_of run past).decided in
      omega arith

  reached_step : (past : List Event) (seat : ℕ) (what : What) → MayHappen (known_of run past) seat what
      → was_begun (record { seat = seat; what = what } ∷ past) check ≡ true → (was_begun past check ≡ true → Reached past) → Reached past
  reached_step past seat (Begun ticket lane about) may begun rest = by (same_op about check) refl begun
    where
      by : (b : Bool) → same_op about check ≡ b → (b || was_begun past check) ≡ true → Reached past
      by true is h =
          let known : Known = known_of run past in
          let ready : is_ready_on known check lane ≡ true =
          subst (λ (it : Op). is_ready_on known it lane ≡ true) (equal_ops about check is)
          (and_left (is_ready_on known about lane) (not (passes_limit known (to_send about))) may.due) in
          let turn = passing (λ turn. number_at turn == number && asks_config turn) (next_turn known)
          (and_right (not (was_begun known.history check)) _ (and_right (not (has_problem known)) _ (and_left _ (is_next_lane known lane) ready))) in
          let at : number_at turn.0 ≡ number = equal_numbers (number_at turn.0) number (and_left _ (asks_config turn.0) turn.2) in
          let full : number_at turn.0 ≡ length known.decided =
          turn_number known.run known.answers known.goals known.decided turn.0 turn.1 in
          omega arith
      by false is h = rest h
  reached_step past seat _ may begun rest = rest begun

  -- where a provider's inputs are asked to be checked, the goals before it are decided
  reached : (history : List Event) → IsOrderly run history → was_begun history check ≡ true → Reached history
  reached [] orderly begun = absurd (let e : false ≡ true = begun in cc)
  reached (event ∷ past) orderly begun =
      grown_count event past (reached_step past event.seat event.what orderly.1 begun (reached past orderly.0))

  module _ (history : List Event) (orderly : IsOrderly run history) (fields : Pairs)
      (said : checked_in (reply_to (known_of run history).answers check) ≡ Some fields) where
    abbrev known : Known
    known = known_of run history

    was : was_begun history check ≡ true
    was = by (reply_to known.answers check) refl said
      where
        by : (o : Option Reply) → reply_to known.answers check ≡ o → checked_in o ≡ Some fields → was_begun history check ≡ true
        by None is h = absurd (let e : None ≡ Some fields = h in cc)
        by (Some reply) is h =
            replied-begun history check reply
            (subst (λ (events : List Event). reply_to (answers_of events) check ≡ Some reply) (history_of run history)
            (subst (λ (closed : List Closed). reply_to closed check ≡ Some reply) (answers_as run history) is))

    -- at its turn it can be decided
    decides : (turn : Turn) → is_provider_goal turn.goal ≡ true → turn.answers ≡ known.answers → number_at turn ≡ number
        → decided_at turn ≡ None → ⊥
    decides turn provider heard at none = by (checked_at turn) checked (diff_at turn) diffed none
      where
        checked : checked_at turn ≡ Some fields
        checked =
            ap (λ (b : Bool). if b then checked_in (reply_to turn.answers (op.CheckConfig (subject.Goal (number_at turn))))
            else (if needs_check turn then checked_in (reply_to turn.answers (op.Check (subject.Goal (number_at turn))))
            else Some (inputs_at turn))) provider
            ∙ ap (λ (n : ℕ). checked_in (reply_to turn.answers (op.CheckConfig (subject.Goal n)))) at
            ∙ ap (λ (closed : List Closed). checked_in (reply_to closed check)) heard ∙ said

        unwanted : (b : Bool) → wants_diff turn ≡ b → wants_diff turn ≡ false
        unwanted false is = is
        unwanted true is =
            let provided : is_provided turn.goal ≡ true = diff_provided (claim_at turn) turn.goal (change_at turn) is in
            let not_so : not (is_provider_goal turn.goal) ≡ true = and_right turn.goal.custom _ provided in
            absurd (let e : false ≡ true = ap (λ (b : Bool). not b) (sym provider) ∙ not_so in cc)

        diffed : diff_at turn ≡ Some None
        diffed = rw (unwanted (wants_diff turn) refl) refl

        by : (fields_at : Option Pairs) → fields_at ≡ Some fields → (diff : Option (Option Diffed)) → diff ≡ Some None
            → option_and_then (λ (it : Pairs). option_map (decided_by turn it) diff) fields_at ≡ None → ⊥
        by None is diff has h = let e : None ≡ Some fields = is in cc
        by (Some it) is None has h = let none : Option (Option Diffed) = None in let e : none ≡ Some None = has in cc
        by (Some it) is (Some diff) has h = let e : Some (decided_by turn it diff) ≡ None = h in cc

    checked_decided : is_some (decided_goal known number) ≡ true
    checked_decided = by (decided_goal known number) refl
      where
        never : length known.decided ≡ number → ⊥
        never count =
            let provider = check-provider run number history orderly was in
            let ones : known.decided ≡ decided_of known.run known.answers known.goals =
            decided_as run history ∙ ap (λ (answers : List Closed). decided_of known.run answers known.goals) (sym (answers_as run history)) in
            let same : length (decided_of known.run known.answers known.goals) ≡ number =
            sym (ap (λ (all : List Decided). length all) ones) ∙ count in
            let at : numbered known.goals (length (decided_of known.run known.answers known.goals)) ≡ Some provider.0 =
            subst (λ (k : ℕ). numbered known.goals k ≡ Some provider.0) (sym same) provider.1 in
            let its = waiting known.run known.answers known.goals provider.0 at in
            decides its.turn (ap (λ (it : Goal). is_provider_goal it) its.whose ∙ provider.2) its.heard (its.count ∙ same) its.undecided

        by : (o : Option Decided) → decided_goal known number ≡ o → is_some (decided_goal known number) ≡ true
        by (Some one) is = ap (λ (o : Option Decided). is_some o) is
        by None is = absurd (never (exact known.decided number (reached history orderly was) is))

-- ---- what is due

-- a row that is one of the rows is there
row_there : (known : Known) (row : ℕ) → row < length (rows_of known.run) → is_some (row_at known row) ≡ true
row_there told row low = by (slice_get_cases (rows_of told.run) row).1
  where
    by : ((entry : Entry) × (row < length (rows_of told.run)) × (slice_get (rows_of told.run) row ≡ Some entry)
        × (get_or (rows_of told.run) row entry ≡ entry))
        ⊎ ((length (rows_of told.run) ≤ row) × (slice_get (rows_of told.run) row ≡ None)) → is_some (row_at told row) ≡ true
    by (inl there) = ap (λ (o : Option Entry). is_some o) there.2
    by (inr past) = absurd (let high : length (rows_of told.run) ≤ row = past.0 in omega arith)

module _ (run : Fixed) (history : List Event) (orderly : IsOrderly run history) where
  abbrev now : Known
  now = known_of run history

  source_there : (provider : Source) → IsSourceThere now provider → is_some (provider_inputs now provider) ≡ true
  source_there (source.Goal number) h =
      let there = recorded-held run history number orderly h in rw there.2.decided refl
  source_there (source.Row row) h =
      let there = some_there (row_at now row) (row_there now row h) in rw there.1 refl

  checked_there : (provider : Source) (lane : ℕ) → is_checked_lane now provider lane ≡ true → is_some (provider_inputs now provider) ≡ true
  checked_there (source.Goal number) lane h =
      let it = passing (may_configure now) (checked_in (reply_to now.answers (op.CheckConfig (subject.Goal number))))
      (and_left _ _ (and_left _ _ (and_left _ _ (and_left _ _ h)))) in
      let one = some_there (decided_goal now number) (checked_decided run number history orderly it.0 it.1) in
      rw one.1 refl
  checked_there (source.Row row) lane h = absurd (let e : false ≡ true = h in cc)

  ready_asked : (about : Op) (lane : ℕ) → is_ready_on now about lane ≡ true → is_some (ask_of now about) ≡ true
  ready_asked (op.CheckConfig on) lane h =
      asked_there now (update_kin run history) (op.CheckConfig on)
      (and_right (not (was_begun now.history (op.CheckConfig on))) _
      (and_right (not (has_problem now)) (is_wanted_op now (op.CheckConfig on)) (and_left _ (is_next_lane now lane) h)))
  ready_asked (op.Configure provider) lane h =
      by (either_true (is_checked_lane now provider lane) (wants_lane now provider && is_next_lane now lane)
      (and_right (not (has_problem now)) _ h))
    where
      mapped : is_some (provider_inputs now provider) ≡ true → is_some (ask_of now (op.Configure provider)) ≡ true
      mapped h = let it = some_there (provider_inputs now provider) h in rw it.1 refl

      by : (is_checked_lane now provider lane ≡ true) ⊎ ((wants_lane now provider && is_next_lane now lane) ≡ true)
          → is_some (ask_of now (op.Configure provider)) ≡ true
      by (inl h) = mapped (checked_there provider lane h)
      by (inr h) = mapped (source_there provider (wants-there now provider (and_left (wants_lane now provider) (is_next_lane now lane) h)))
  ready_asked (op.Check on) lane h = asked_there now (update_kin run history) (op.Check on) (asked_on now 0 (op.Check on) lane h)
  ready_asked (op.Diff on) lane h = asked_there now (update_kin run history) (op.Diff on) (asked_on now 0 (op.Diff on) lane h)
  ready_asked (op.Create on) lane h = asked_there now (update_kin run history) (op.Create on) (asked_on now 0 (op.Create on) lane h)
  ready_asked (op.Update on) lane h = asked_there now (update_kin run history) (op.Update on) (asked_on now 0 (op.Update on) lane h)
  ready_asked (op.Delete on) lane h = asked_there now (update_kin run history) (op.Delete on) (asked_on now 0 (op.Delete on) lane h)
  ready_asked (op.Read on) lane h = asked_there now (update_kin run history) (op.Read on) (asked_on now 0 (op.Read on) lane h)
  ready_asked (op.Invoke n) lane h = asked_there now (update_kin run history) (op.Invoke n) (asked_on now 0 (op.Invoke n) lane h)

  ready_opens : (about : Op) (lane : ℕ) → is_ready_on now about lane ≡ true → is_covered about ≡ true → is_some (pending_for now about) ≡ true
  ready_opens (op.Create on) lane h covered = asked_opens now (op.Create on) (asked_on now 0 (op.Create on) lane h) covered
  ready_opens (op.Update on) lane h covered = asked_opens now (op.Update on) (asked_on now 0 (op.Update on) lane h) covered
  ready_opens (op.Delete on) lane h covered = asked_opens now (op.Delete on) (asked_on now 0 (op.Delete on) lane h) covered
  ready_opens _ lane h covered = absurd (let e : false ≡ true = covered in cc)

pub due-asked : DueAsked
due-asked = λ run history about lane orderly due.
    ready_asked run history orderly about lane
    (and_left (is_ready_on (known_of run history) about lane) (not (passes_limit (known_of run history) (to_send about))) due)

pub due-opens : DueOpens
due-opens = λ run history about lane orderly due covered.
    ready_opens run history orderly about lane
    (and_left (is_ready_on (known_of run history) about lane) (not (passes_limit (known_of run history) (to_send about))) due) covered
