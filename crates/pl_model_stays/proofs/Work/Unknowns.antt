-- In a preview, what is asked of a goal's provider is asked of one whose inputs are known; what a provider's inputs are.
use Rattle.std.proofs.Common.{◌≡◌, ℕ, ◌==◌, Bool, true, false, not, ◌&&◌, ◌||◌, if◌then◌else◌, List, [], ◌∷◌, length, option_and_then, option_map, Option, Some, None, is_some, refl, sym, ◌∙◌, ap, subst}
use Rattle.std.proofs.lemmas.Option.{same_Some}
use Rattle.pl_lemmas.proofs.Truth.{and_left, and_right, and_fails, neither_right}
use Rattle.pl_lemmas.proofs.Numbers.{equal_numbers}
use Rattle.pl_value.specs.Inside.{any_field_unknown}
use Rattle.pl_lemmas.specs.Words.{numbered, some_passes}
use Rattle.pl_lemmas.proofs.Options.{passing}
use Rattle.pl_state.specs.Kinds.{is_provided, is_provider_goal, is_reading_goal}
use Rattle.pl_state.specs.declared.goal.Diffed.{Diffed}
use Rattle.pl_state.specs.declared.goal.Goal.{Goal}
use Rattle.pl_events.specs.declared.event.Event.{Event}
use Rattle.pl_events.specs.declared.event.Request.{Request}
use Rattle.pl_events.specs.declared.event.Request.TheVariants.{Register, Outputs, Invoke}
use Rattle.pl_events.specs.declared.event.What.{What}
use Rattle.pl_events.specs.declared.event.What.TheVariants.{Begun}
use Rattle.pl_events.specs.declared.operation.Op.{Op}
use Rattle.pl_events.specs.declared.operation.Op.TheVariants as op
use Rattle.pl_events.specs.declared.operation.Source.TheVariants as source
use Rattle.pl_events.specs.declared.operation.Subject.TheVariants as subject
use Rattle.pl_model.specs.declared.decided.Decided.{Decided}
use Rattle.pl_model.specs.declared.errand.Closed.{Closed}
use Rattle.pl_model.specs.declared.fixed.Fixed.{Fixed}
use Rattle.pl_model.specs.declared.heard.Heard.{Heard}
use Rattle.pl_model.specs.declared.work.Work.TheVariants.{Send as to_send}
use Rattle.pl_model.specs.Run.{Pairs, is_preview, is_refresh}
use Rattle.pl_model.specs.declared.mode.Mode.{Mode}
use Rattle.pl_model.specs.declared.mode.Mode.TheVariants.{Up, Preview, Destroy, Refresh}
use Rattle.pl_model.specs.Tickets.{answers_of, reply_to, same_op, was_begun}
use Rattle.pl_model.specs.Decisions.{Turn, checked_at, checked_in, decided_at, decided_by, diff_at, has_unknown_inputs, inputs_at, is_provider_unknown, needs_check, number_at, turn_in, turn_of, wants_diff}
use Rattle.pl_model.specs.Due.{asks_check, asks_config, asks_diff, for_decided, has_unknown_provider, is_asked, is_carried_out, is_invoke, is_next_lane, is_placed, is_reading, is_ready_on, is_removable, is_unsent, op_of_decision, op_of_goal, passes_limit, provider_recorded, sends_goal, source_of_op, way_is_free}
use Rattle.pl_model.specs.History.{known_of}
use Rattle.pl_model.specs.Known.{Known, asked_at, decided_goal, goal_at, has_problem, next_turn}
use Rattle.pl_model.specs.Legal.{IsOrderly, MayHappen}
use Rattle.pl_model.specs.Rows.{has_dependents, is_doomed, is_sent, source_of_goal, was_removed}
use Rattle.pl_model_stays.proofs.Goals.Claiming.{was-made}
use Rattle.pl_model_stays.proofs.Lists.Growing.{goals-stay}
use Rattle.pl_model_stays.proofs.Operations.Once.{equal_ops, not_true}
use Rattle.pl_model_stays.proofs.Goals.Recorded.{found}
use Rattle.pl_model_stays.proofs.Operations.Sourcing.{is_check_config}
use Rattle.pl_model_stays.proofs.Goals.Standing.{answers_as}
use Rattle.pl_model_stays.proofs.Goals.Subjects.{turn_goal}

-- the turn of the first goal that is not decided is one of the run, after what is decided
turn_parts : (run : Fixed) (answers : List Closed) (goals : List Goal) (decided : List Decided) (turn : Turn)
    → turn_in run answers goals decided ≡ Some turn → (turn.run ≡ run) × (turn.before ≡ decided)
turn_parts run answers [] decided turn h = absurd (let e : None ≡ Some turn = h in cc)
turn_parts run answers (goal ∷ earlier) decided turn h =
    by (length earlier == length decided) (turn_parts run answers earlier decided turn) h
  where
    by : (b : Bool) → (turn_in run answers earlier decided ≡ Some turn → (turn.run ≡ run) × (turn.before ≡ decided))
        → (if b then Some (turn_of run answers earlier decided goal) else turn_in run answers earlier decided) ≡ Some turn
        → (turn.run ≡ run) × (turn.before ≡ decided)
    by true rest h =
        subst (λ (it : Turn). (it.run ≡ run) × (it.before ≡ decided)) (same_Some (turn_of run answers earlier decided goal) turn h) (refl, refl)
    by false rest h = rest h

-- a run that reads everything anew is no preview
read_or_preview : (mode : Mode) → is_refresh mode ≡ true → is_preview mode ≡ false
read_or_preview Up h = refl
read_or_preview Preview h = absurd (let e : false ≡ true = h in cc)
read_or_preview Destroy h = refl
read_or_preview (Refresh clear imports) h = refl

module _ (known : Known) (preview : is_preview known.run.mode ≡ true) where
  -- whether something is decided of a goal over inputs that are not known
  abbrev is_unknown : ℕ → Bool
  is_unknown number = some_passes (λ one. any_field_unknown one.checked) (decided_goal known number)

  -- the provider at a goal's turn
  turn_known : (turn : Turn) (m : ℕ) → next_turn known ≡ Some turn → turn.goal.provider ≡ Some m → is_provider_unknown turn ≡ false
      → is_unknown m ≡ false
  turn_known turn m next provider h =
      let parts = turn_parts known.run known.answers known.goals known.decided turn next in
      let unknown : has_unknown_inputs turn.before turn.goal.provider ≡ false =
      and_fails (is_preview turn.run.mode) _ h (ap (λ (fixed : Fixed). is_preview fixed.mode) parts.0 ∙ preview) in
      ap (λ (o : Option ℕ). has_unknown_inputs known.decided o) (sym provider)
      ∙ ap (λ (ones : List Decided). has_unknown_inputs ones turn.goal.provider) (sym parts.1) ∙ unknown

  -- the goal's own number names its provider
  own_provider : (number m : ℕ) (goal : Goal) → goal_at known number ≡ Some goal → source_of_goal known number ≡ Some (source.Goal m)
      → goal.provider ≡ Some m
  own_provider number m goal stands h =
      by goal.provider refl (sym (ap (λ (o : Option Goal). option_map source.Goal (option_and_then (λ (one : Goal). one.provider) o)) stands) ∙ h)
    where
      by : (o : Option ℕ) → goal.provider ≡ o → option_map source.Goal o ≡ Some (source.Goal m) → goal.provider ≡ Some m
      by None is h = absurd (let e : None ≡ Some (source.Goal m) = h in cc)
      by (Some own) is h = is ∙ ap (λ (n : ℕ). Some n) (let e : Some (source.Goal own) ≡ Some (source.Goal m) = h in cc)

  -- what is asked at a goal's turn
  at_turn_known : (number m : ℕ) (test : Turn → Bool) → ((turn : Turn) → test turn ≡ true → is_provider_unknown turn ≡ false)
      → some_passes (λ turn. number_at turn == number && test turn) (next_turn known) ≡ true
      → source_of_goal known number ≡ Some (source.Goal m) → is_unknown m ≡ false
  at_turn_known number m test tells h is =
      let turn = passing (λ turn. number_at turn == number && test turn) (next_turn known) h in
      let stands : goal_at known number ≡ Some turn.0.goal =
      subst (λ (n : ℕ). numbered known.goals n ≡ Some turn.0.goal) (equal_numbers (number_at turn.0) number (and_left _ (test turn.0) turn.2))
      (turn_goal known.run known.answers known.goals known.decided turn.0 turn.1) in
      turn_known turn.0 m turn.1 (own_provider number m turn.0.goal stands is)
      (tells turn.0 (and_right (number_at turn.0 == number) (test turn.0) turn.2))

  -- what is sent for a goal
  sent_known : (number m : ℕ) (about : Op) → for_decided known number (sends_goal known number about) ≡ true
      → source_of_goal known number ≡ Some (source.Goal m) → is_unknown m ≡ false
  sent_known number m about h is =
      let it = found known number (sends_goal known number about) h in
      let needs : some_passes (same_op about) (op_of_goal known number it.0 it.1) ≡ true =
      and_right (is_placed known number it.0 it.1) _ (and_left _ (way_is_free known it.1) it.4) in
      ap (λ (o : Option ℕ). some_passes is_unknown o) (sym (own_provider number m it.0 it.2 is))
      ∙ by it.0 it.1 (is_carried_out known it.0 it.1.decision) refl needs
    where
      by : (goal : Goal) (one : Decided) (b : Bool) → is_carried_out known goal one.decision ≡ b
          → some_passes (same_op about) (if b then op_of_decision number one.decision else None) ≡ true
          → some_passes is_unknown goal.provider ≡ false
      by goal one false is h = absurd (let e : false ≡ true = h in cc)
      by goal one true is h =
          let reads : (is_reading one.decision && not (has_unknown_provider known goal)) ≡ true =
          subst (λ (b : Bool). (not b || (is_reading one.decision && not (has_unknown_provider known goal))) ≡ true) preview
          (and_right (is_provided goal) _ is) in
          and_fails (is_preview known.run.mode) _
          (not_true (has_unknown_provider known goal) (and_right (is_reading one.decision) _ reads)) preview

  -- what is invoked
  invoke_known : (request : Request) (about : Option ℕ) (m : ℕ) → is_invoke known request about ≡ true → about ≡ Some m → is_unknown m ≡ false
  invoke_known (Invoke n token args provider version) about m h is =
      let sent : is_unsent known (Invoke n token args provider version) about ≡ false =
      not_true _ (and_right _ (not (is_unsent known (Invoke n token args provider version) about)) h) in
      ap (λ (o : Option ℕ). some_passes is_unknown o) (sym is)
      ∙ neither_right (any_field_unknown args) _ (and_fails (is_preview known.run.mode) _ sent preview)
  invoke_known (Register n told) about m h is = absurd (let e : false ≡ true = h in cc)
  invoke_known (Outputs n urn outputs) about m h is = absurd (let e : false ≡ true = h in cc)

  source_named : (o : Option ℕ) (m : ℕ) → option_map source.Goal o ≡ Some (source.Goal m) → o ≡ Some m
  source_named None m h = absurd (let e : None ≡ Some (source.Goal m) = h in cc)
  source_named (Some own) m h = ap (λ (n : ℕ). Some n) (let e : Some (source.Goal own) ≡ Some (source.Goal m) = h in cc)

  invoked_known : (n m : ℕ) → some_passes (λ asked. is_invoke known asked.request asked.about) (asked_at known n) ≡ true
      → option_map source.Goal (option_and_then (λ (asked : Heard). asked.about) (asked_at known n)) ≡ Some (source.Goal m) → is_unknown m ≡ false
  invoked_known n m h is =
      let asked = passing (λ asked. is_invoke known asked.request asked.about) (asked_at known n) h in
      invoke_known asked.0.request asked.0.about m asked.2
      (source_named asked.0.about m
      (sym (ap (λ (o : Option Heard). option_map source.Goal (option_and_then (λ (one : Heard). one.about) o)) asked.1) ∙ is))

  -- what only a run that is no preview asks
  never_asked : (m : ℕ) → is_preview known.run.mode ≡ false → is_unknown m ≡ false
  never_asked m other = absurd (let e : true ≡ false = sym preview ∙ other in cc)

  -- an operation of a goal's provider is asked only where the provider's inputs are known
  pub asked-known : (about : Op) (m : ℕ) → is_check_config about ≡ false → is_asked known about ≡ true
      → source_of_op known about ≡ Some (source.Goal m) → is_unknown m ≡ false
  asked-known (op.CheckConfig about) m other h is = absurd (let e : true ≡ false = other in cc)
  asked-known (op.Configure provider) m other h is = absurd (let e : false ≡ true = h in cc)
  asked-known (op.Check (subject.Goal number)) m other h is =
      at_turn_known number m (asks_check known) (λ turn asks. not_true (is_provider_unknown turn)
      (and_right (is_provided turn.goal && not (is_reading_goal turn.goal)) (not (is_provider_unknown turn))
      (and_left (needs_check turn) (not (is_provider_goal turn.goal)) (and_left _ (provider_recorded known turn) asks)))) h is
  asked-known (op.Check _) m other h is = absurd (let e : false ≡ true = h in cc)
  asked-known (op.Diff (subject.Goal number)) m other h is =
      at_turn_known number m (asks_diff known) (λ turn asks. not_true (is_provider_unknown turn)
      (and_right (is_some (checked_at turn) && wants_diff turn) (not (is_provider_unknown turn)) (and_left _ (provider_recorded known turn) asks))) h is
  asked-known (op.Diff _) m other h is = absurd (let e : false ≡ true = h in cc)
  asked-known (op.Create (subject.Goal number)) m other h is = sent_known number m (op.Create (subject.Goal number)) h is
  asked-known (op.Create _) m other h is = absurd (let e : false ≡ true = h in cc)
  asked-known (op.Update (subject.Goal number)) m other h is = sent_known number m (op.Update (subject.Goal number)) h is
  asked-known (op.Update _) m other h is = absurd (let e : false ≡ true = h in cc)
  asked-known (op.Delete (subject.Row row)) m other h is =
      never_asked m (not_true (is_preview known.run.mode)
      (and_right (is_doomed known row && not (was_removed known row) && not (has_dependents known row)) (not (is_preview known.run.mode))
      (and_left (is_removable known row) (is_sent known row) h)))
  asked-known (op.Delete _) m other h is = absurd (let e : false ≡ true = h in cc)
  asked-known (op.Read (subject.Goal number)) m other h is = sent_known number m (op.Read (subject.Goal number)) h is
  asked-known (op.Read (subject.Row row)) m other h is =
      never_asked m (read_or_preview known.run.mode (and_left (is_refresh known.run.mode) _ h))
  asked-known (op.Read (subject.Pending at)) m other h is =
      never_asked m (read_or_preview known.run.mode (and_left (is_refresh known.run.mode) _ h))
  asked-known (op.Invoke n) m other h is = invoked_known n m h is

-- ---- whose inputs a provider's were checked for

-- a goal that stands is a provider
abbrev pub IsProviderThere : Fixed → List Event → ℕ → Type 0
IsProviderThere run history number =
    (goal : Goal) × (goal_at (known_of run history) number ≡ Some goal) × (is_provider_goal goal ≡ true)

-- the check of a provider's inputs is due for a provider
check_due : (known : Known) (number lane : ℕ) → is_ready_on known (op.CheckConfig (subject.Goal number)) lane ≡ true
    → (goal : Goal) × (goal_at known number ≡ Some goal) × (is_provider_goal goal ≡ true)
check_due known number lane ready =
    let turn = passing (λ turn. number_at turn == number && asks_config turn) (next_turn known)
    (and_right (not (was_begun known.history (op.CheckConfig (subject.Goal number)))) _
    (and_right (not (has_problem known)) _ (and_left _ (is_next_lane known lane) ready))) in (
      turn.0.goal,
      subst (λ (n : ℕ). numbered known.goals n ≡ Some turn.0.goal) (equal_numbers (number_at turn.0) number (and_left _ (asks_config turn.0) turn.2))
          (turn_goal known.run known.answers known.goals known.decided turn.0 turn.1),
      and_right (number_at turn.0 == number) (asks_config turn.0) turn.2,
    )

module _ (run : Fixed) (number : ℕ) where
  abbrev check : Op
  check = op.CheckConfig (subject.Goal number)

  check_step : (past : List Event) (seat : ℕ) (what : What) → MayHappen (known_of run past) seat what
      → was_begun (record { seat = seat; what = what } ∷ past) check ≡ true
      → (was_begun past check ≡ true → IsProviderThere run past number) → IsProviderThere run past number
  check_step past seat (Begun ticket lane about) may begun rest = by (same_op about check) refl begun
    where
      by : (b : Bool) → same_op about check ≡ b → (b || was_begun past check) ≡ true → IsProviderThere run past number
      by true is h = check_due (known_of run past) number lane
          (subst (λ (it : Op). is_ready_on (known_of run past) it lane ≡ true) (equal_ops about check is)
          (and_left (is_ready_on (known_of run past) about lane) (not (passes_limit (known_of run past) (to_send about))) may.due))
      by false is h = rest h
  check_step past seat _ may begun rest = rest begun

  -- a goal for which a provider's inputs were checked is a provider
  pub check-provider : (history : List Event) → IsOrderly run history → was_begun history check ≡ true → IsProviderThere run history number
  check-provider [] orderly begun = absurd (let e : false ≡ true = begun in cc)
  check-provider (event ∷ past) orderly begun =
      let there = check_step past event.seat event.what orderly.1 begun (check-provider past orderly.0) in
      (there.0, goals-stay run event past number there.0 there.1, there.2)

-- ---- what is decided of a provider

-- what is decided at a turn has the checked inputs of the turn
checked_of : (turn : Turn) (one : Decided) → decided_at turn ≡ Some one → checked_at turn ≡ Some one.checked
checked_of turn one h = by (checked_at turn) (diff_at turn) refl h
  where
    by : (checked : Option Pairs) (diff : Option (Option Diffed)) → diff_at turn ≡ diff
        → option_and_then (λ (fields : Pairs). option_map (decided_by turn fields) diff) checked ≡ Some one → checked ≡ Some one.checked
    by None diff is h = absurd (let e : None ≡ Some one = h in cc)
    by (Some fields) None is h = absurd (let e : None ≡ Some one = h in cc)
    by (Some fields) (Some diff) is h =
        ap (λ (it : Decided). Some it.checked) (same_Some (decided_by turn fields diff) one h)

-- the checked inputs of a provider that is decided are those of the reply
pub provider-checked : (run : Fixed) (history : List Event) (number : ℕ) (goal : Goal) (one : Decided) (fields : Pairs)
    → goal_at (known_of run history) number ≡ Some goal → is_provider_goal goal ≡ true → decided_goal (known_of run history) number ≡ Some one
    → checked_in (reply_to (known_of run history).answers (op.CheckConfig (subject.Goal number))) ≡ Some fields → one.checked ≡ fields
provider-checked run history number goal one fields stands provider decided said =
    let made = was-made run history number one decided in
    let same : made.goal ≡ goal = same_Some made.goal goal (sym made.stands ∙ stands) in
    let provides : is_provider_goal made.goal ≡ true = ap (λ (it : Goal). is_provider_goal it) same ∙ provider in
    let answers = answers_of (known_of run history).history in
    let turn = turn_of run answers made.earlier made.before made.goal in
    let checked : checked_in (reply_to answers (op.CheckConfig (subject.Goal (length made.earlier)))) ≡ Some one.checked =
    subst (λ (b : Bool). (if b then checked_in (reply_to answers (op.CheckConfig (subject.Goal (length made.earlier))))
    else (if needs_check turn then checked_in (reply_to answers (op.Check (subject.Goal (length made.earlier)))) else Some (inputs_at turn)))
    ≡ Some one.checked) provides (checked_of turn one made.made) in
    let here : checked_in (reply_to answers (op.CheckConfig (subject.Goal number))) ≡ Some one.checked =
    subst (λ (k : ℕ). checked_in (reply_to answers (op.CheckConfig (subject.Goal k))) ≡ Some one.checked) made.level checked in
    let told : checked_in (reply_to answers (op.CheckConfig (subject.Goal number))) ≡ Some fields =
    subst (λ (closed : List Closed). checked_in (reply_to closed (op.CheckConfig (subject.Goal number))) ≡ Some fields) (answers_as run history) said in
    same_Some one.checked fields (sym here ∙ told)
