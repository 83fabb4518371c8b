-- The id of a recorded provider is the one that its entry has.
use Rattle.std.proofs.Common.{◌≡◌, ℕ, ◌==◌, Bool, true, false, ◌||◌, if◌then◌else◌, List, [], ◌∷◌, Option, Some, None, is_some, refl, sym, ◌∙◌, ap, subst, option_map, option_and_then, not, ◌&&◌, cond, find, is_none}
use Rattle.std.specs.List.{cons_option, list_any}
use Rattle.std.specs.Option.{option_or}
use Rattle.std.proofs.Math.Bool.{and-false}
use Rattle.pl_lemmas.proofs.Truth.{and_left, and_right, neither_right}
use Rattle.pl_lemmas.proofs.Options.{or_none, passing, row_is}
use Rattle.pl_lemmas.proofs.Numbers.{equal_numbers}
use Rattle.pl_options.specs.Names.{id_text}
use Rattle.pl_lemmas.specs.Words.{has_number, is_row, only_if, some_passes}
use Rattle.pl_state.specs.Kinds.{is_provided, is_provider_goal}
use Rattle.pl_state.specs.declared.entry.Entry.{Entry}
use Rattle.pl_state.specs.declared.goal.Goal.{Goal}
use Rattle.pl_events.specs.declared.event.Event.{Event}
use Rattle.pl_events.specs.declared.event.What.{What}
use Rattle.pl_events.specs.declared.event.What.TheVariants.{Answered, Kept, Begun}
use Rattle.pl_events.specs.declared.operation.Op.{Op}
use Rattle.pl_events.specs.declared.operation.Op.TheVariants as op
use Rattle.pl_events.specs.declared.operation.Subject.TheVariants as subject
use Rattle.pl_events.specs.declared.reply.Reply.{Reply}
use Rattle.pl_decide.specs.Limited.{is_refused}
use Rattle.pl_model.specs.declared.decided.Decided.{Decided}
use Rattle.pl_model.specs.declared.errand.Errand.{Errand}
use Rattle.pl_model.specs.declared.fixed.Fixed.{Fixed}
use Rattle.pl_model.specs.declared.work.Work.TheVariants.{Keep as to_keep, Send as to_send}
use Rattle.pl_model.specs.Run.{is_preview}
use Rattle.pl_model.specs.Tickets.{op_at, begun_of, errand_by, same_op, was_begun}
use Rattle.pl_model.specs.Recording.{is_thing, goal_of_op, recorded_by, recorded_by_reply, recorded_of, fresh_by, fresh_of}
use Rattle.pl_model.specs.Claims.{claimed_row, id_of_row, kept_provider_id, usable_id}
use Rattle.pl_model.specs.Due.{for_decided, has_unknown_provider, is_asked, is_due_on, is_keep_ready, is_lane_of, is_placed, is_reading, is_ready, is_ready_on, is_wanted_op, keeps_goal, op_of_decision, op_of_goal, passes_limit, provider_stands, references_recorded, sends_goal, urn_is_free, way_is_free}
use Rattle.pl_model.specs.Entries.{Result, recording_of, result_by, result_of_keep}
use Rattle.pl_model.specs.History.{known_of}
use Rattle.pl_model.specs.Known.{Known, decided_goal, goal_at, is_recorded, claim_row, has_problem, provider_id}
use Rattle.pl_model.specs.Legal.{IsOrderly, MayBeKept, MayHappen, needs_fresh}
use Rattle.pl_model_stays.proofs.Lists.Growing.{decisions-stay, goals-stay, run_of}
use Rattle.pl_model_stays.proofs.Operations.Once.{history_of, not_true}
use Rattle.pl_model_stays.proofs.Goals.Standing.{IsOnly, KeepsClaim, claim-of-decided, closed_with, given_in, id_there, keep_has_claim, keep_id, only_there, unrecorded-gives}

-- ---- no operation is sent for a provider

-- a provider has no provider
not_provided : (goal : Goal) → is_provider_goal goal ≡ true → is_provided goal ≡ false
not_provided goal provider = ap (λ (b : Bool). goal.custom && not b) provider ∙ and-false goal.custom

-- a provider needs no operation
needs_no_op : (known : Known) (number : ℕ) (goal : Goal) (one : Decided) → is_provider_goal goal ≡ true → op_of_goal known number goal one ≡ None
needs_no_op known number goal one provider =
    ap (λ (b : Bool). if b && (not (is_preview known.run.mode) || (is_reading one.decision && not (has_unknown_provider known goal)))
    then op_of_decision number one.decision else None) (not_provided goal provider)

-- what a test on a goal with its decision passes
decided_passes : (known : Known) (number : ℕ) (test : Goal → Decided → Bool) → for_decided known number test ≡ true
    → (goal : Goal) × (one : Decided) × (goal_at known number ≡ Some goal) × (decided_goal known number ≡ Some one) × (test goal one ≡ true)
decided_passes known number test h =
    let here = passing (λ (goal : Goal). some_passes (test goal) (decided_goal known number)) (goal_at known number) h in
    let decided = passing (test here.0) (decided_goal known number) here.2 in
    (here.0, decided.0, here.1, decided.1, decided.2)

-- an operation on a goal that is asked for is one that the goal needs
asked_sends : (known : Known) (about : Op) (number : ℕ) → goal_of_op about ≡ Some number → is_asked known about ≡ true
    → for_decided known number (sends_goal known number about) ≡ true
asked_sends known about number goes h = by about goes h
  where
    at : (it : Op) (own : ℕ) → Some own ≡ Some number → for_decided known own (sends_goal known own it) ≡ true
        → for_decided known number (sends_goal known number it) ≡ true
    at it own is h = let same : own ≡ number = cc in subst (λ (n : ℕ). for_decided known n (sends_goal known n it) ≡ true) same h

    by : (it : Op) → goal_of_op it ≡ Some number → is_asked known it ≡ true → for_decided known number (sends_goal known number it) ≡ true
    by (op.Create (subject.Goal own)) is h = at (op.Create (subject.Goal own)) own is h
    by (op.Update (subject.Goal own)) is h = at (op.Update (subject.Goal own)) own is h
    by (op.Read (subject.Goal own)) is h = at (op.Read (subject.Goal own)) own is h
    by _ is h = absurd (let e : None ≡ Some number = is in cc)

-- an operation that is wanted is asked for
wanted_asked : (known : Known) (about : Op) → is_wanted_op known about ≡ true → is_asked known about ≡ true
wanted_asked known about h = and_right (not (was_begun known.history about)) (is_asked known about) h

-- what is ready on a lane, on a goal, is asked for
ready_asked : (known : Known) (about : Op) (lane number : ℕ) → goal_of_op about ≡ Some number → is_ready_on known about lane ≡ true
    → is_asked known about ≡ true
ready_asked known (op.Create about) lane number goes h =
    wanted_asked known (op.Create about) (and_right (not (has_problem known)) _ (and_left _ (is_lane_of known (op.Create about) lane) h))
ready_asked known (op.Update about) lane number goes h =
    wanted_asked known (op.Update about) (and_right (not (has_problem known)) _ (and_left _ (is_lane_of known (op.Update about) lane) h))
ready_asked known (op.Read about) lane number goes h =
    wanted_asked known (op.Read about) (and_right (not (has_problem known)) _ (and_left _ (is_lane_of known (op.Read about) lane) h))
ready_asked known _ lane number goes h = absurd (let e : None ≡ Some number = goes in cc)

-- an operation that is due on a goal is one that the goal needs
pub due_sends : (known : Known) (about : Op) (lane number : ℕ) → goal_of_op about ≡ Some number → is_due_on known about lane ≡ true
    → for_decided known number (sends_goal known number about) ≡ true
due_sends known about lane number goes h =
    asked_sends known about number goes
    (ready_asked known about lane number goes (and_left (is_ready_on known about lane) (not (passes_limit known (to_send about))) h))

-- none is due on a provider
none_due : (known : Known) (about : Op) (lane number : ℕ) (goal : Goal) → IsOnly (goal_at known number) goal → is_provider_goal goal ≡ true
    → is_due_on known about lane ≡ true → goal_of_op about ≡ Some number → ⊥
none_due known about lane number goal only provider due goes =
    let found = decided_passes known number (sends_goal known number about) (due_sends known about lane number goes due) in
    let same : found.0 ≡ goal = only found.0 found.2 in
    let sends : some_passes (same_op about) (op_of_goal known number found.0 found.1) ≡ true =
    and_right (is_placed known number found.0 found.1) (some_passes (same_op about) (op_of_goal known number found.0 found.1))
    (and_left _ (way_is_free known found.1) found.4) in
    let none : op_of_goal known number found.0 found.1 ≡ None =
    ap (λ (it : Goal). op_of_goal known number it found.1) same ∙ needs_no_op known number goal found.1 provider in
    let never : some_passes (same_op about) (op_of_goal known number found.0 found.1) ≡ false = ap (some_passes (same_op about)) none in
    absurd (let e : true ≡ false = sym sends ∙ never in cc)

-- what no one passes, none that is found passes
found_fails : {X : Type 0} (test wanted : X → Bool) (xs : List X) (x : X) → list_any test xs ≡ false → find wanted xs ≡ Some x → test x ≡ false
found_fails test wanted [] x none h = absurd (let e : None ≡ Some x = h in cc)
found_fails {X = X} test wanted (y ∷ ys) x none h = by (wanted y) (test y) refl none (found_fails test wanted ys x) h
  where
    by : (here passes : Bool) → test y ≡ passes → (passes || list_any test ys) ≡ false
        → (list_any test ys ≡ false → find wanted ys ≡ Some x → test x ≡ false)
        → cond here (Some y) (find wanted ys) ≡ Some x → test x ≡ false
    by here true is none rest h = absurd (let e : true ≡ false = none in cc)
    by true false is none rest h = let same : y ≡ x = cc in subst (λ (it : X). test it ≡ false) same is
    by false false is none rest h = rest none h

-- ---- a provider's keep

-- a goal that was not recorded has no number kept for it
fresh_unrecorded : (past : List Event) (number : ℕ) → has_number (recorded_of past) number ≡ false → fresh_of past number ≡ None
fresh_unrecorded [] number h = refl
fresh_unrecorded (event ∷ past) number h = by event.what (fresh_unrecorded past number) h
  where
    behind : (o : Option ℕ) → has_number (cons_option o (recorded_of past)) number ≡ false → has_number (recorded_of past) number ≡ false
    behind None h = h
    behind (Some other) h = neither_right (other == number) (has_number (recorded_of past) number) h

    kept_other : (fresh : Option ℕ) (b : Bool) → (has_number (recorded_of past) number ≡ false → fresh_of past number ≡ None)
        → (b || has_number (recorded_of past) number) ≡ false → option_or (fresh_of past number) (only_if b fresh) ≡ None
    kept_other fresh true rest h = absurd (let e : true ≡ false = h in cc)
    kept_other fresh false rest h = ap (λ (o : Option ℕ). option_or o None) (rest h)

    by : (what : What) → (has_number (recorded_of past) number ≡ false → fresh_of past number ≡ None)
        → has_number (cons_option (recorded_by past what) (recorded_of past)) number ≡ false
        → option_or (fresh_of past number) (fresh_by number what) ≡ None
    by (Kept kept fresh) rest h = kept_other fresh (kept == number) rest h
    by (Answered ticket said) rest h = ap (λ (o : Option ℕ). option_or o None) (rest (behind (recorded_by past (Answered ticket said)) h))
    by _ rest h = ap (λ (o : Option ℕ). option_or o None) (rest h)

module _ (run : Fixed) (known : Known) (number : ℕ) (goal : Goal) (one : Decided) (same_run : known.run ≡ run) (provider : is_provider_goal goal ≡ true) where
  -- the row that the goal claims
  abbrev claimed : Option Entry
  claimed = claimed_row known.run one.claim

  -- whether an errand is one for the goal
  abbrev sent_for : Errand → Bool
  sent_for errand = is_row (goal_of_op errand.op) number

  -- the number has no other goal, if it has one
  abbrev OnlyGoal : List Event → Type 0
  OnlyGoal past = IsOnly (goal_at (known_of run past) number) goal

  -- nothing else is decided of the number, if anything is
  abbrev OnlyDecided : List Event → Type 0
  OnlyDecided past = IsOnly (decided_goal (known_of run past) number) one

  -- so it was before the last event
  goal_before : (event : Event) (past : List Event) → OnlyGoal (event ∷ past) → OnlyGoal past
  goal_before event past only it h = only it (goals-stay run event past number it h)

  -- the same of what is decided
  decided_before : (event : Event) (past : List Event) → OnlyDecided (event ∷ past) → OnlyDecided past
  decided_before event past only it h = only it (decisions-stay run event past number it h)

  -- one event more begins no operation for the goal
  unsent_step : (seat : ℕ) (past : List Event) (what : What) → MayHappen (known_of run past) seat what → OnlyGoal past
      → list_any sent_for (begun_of past) ≡ false → list_any sent_for (cons_option (errand_by seat what) (begun_of past)) ≡ false
  unsent_step seat past (Begun ticket lane about) may only rest = by (is_row (goal_of_op about) number) refl
    where
      by : (b : Bool) → is_row (goal_of_op about) number ≡ b → (b || list_any sent_for (begun_of past)) ≡ false
      by true is = absurd (none_due (known_of run past) about lane number goal only provider may.due (row_is (goal_of_op about) number is))
      by false is = rest
  unsent_step seat past _ may only rest = rest

  -- no operation was begun for a provider
  unsent : (past : List Event) → IsOrderly run past → OnlyGoal past → list_any sent_for (begun_of past) ≡ false
  unsent [] orderly only = refl
  unsent (event ∷ past) orderly only =
      unsent_step event.seat past event.what orderly.1 (goal_before event past only) (unsent past orderly.0 (goal_before event past only))

  -- no ticket is that of an operation for the goal
  unsent_at : (past : List Event) (ticket : ℕ) → list_any sent_for (begun_of past) ≡ false → (about : Op) → op_at past ticket ≡ Some about
      → is_row (goal_of_op about) number ≡ false
  unsent_at past ticket none about h = by (find (λ (errand : Errand). errand.ticket == ticket) (begun_of past)) refl h
    where
      by : (o : Option Errand) → find (λ (errand : Errand). errand.ticket == ticket) (begun_of past) ≡ o
          → option_map (λ (errand : Errand). errand.op) o ≡ Some about → is_row (goal_of_op about) number ≡ false
      by None is h = absurd (let e : None ≡ Some about = h in cc)
      by (Some errand) is h =
          let same : errand.op ≡ about = cc in
          subst (λ (it : Op). is_row (goal_of_op it) number ≡ false) same
          (found_fails sent_for (λ (it : Errand). it.ticket == ticket) (begun_of past) errand none is)

  -- no answer records a provider
  answer_records_other : (past : List Event) (ticket : ℕ) (said : Reply) → list_any sent_for (begun_of past) ≡ false
      → has_number (cons_option (recorded_by past (Answered ticket said)) (recorded_of past)) number ≡ true → has_number (recorded_of past) number ≡ true
  answer_records_other past ticket said none h = by (op_at past ticket) refl h
    where
      at : (thing : Bool) (o : Option ℕ) → is_row o number ≡ false → has_number (cons_option (only_if thing o) (recorded_of past)) number ≡ true
          → has_number (recorded_of past) number ≡ true
      at false o other h = h
      at true None other h = h
      at true (Some own) other h = ap (λ (b : Bool). b || has_number (recorded_of past) number) (sym other) ∙ h

      by : (o : Option Op) → op_at past ticket ≡ o
          → has_number (cons_option (option_and_then recorded_by_reply (option_map (closed_with said) o)) (recorded_of past)) number ≡ true
          → has_number (recorded_of past) number ≡ true
      by None is h = h
      by (Some about) is h = at (is_thing said) (goal_of_op about) (unsent_at past ticket none about is) h

  -- the result of a provider's keep, with the id by which references name it
  abbrev HasId : Option Result → Option ℕ → Type 0
  HasId o fresh = (result : Result) × (o ≡ Some result) × (result.id ≡ kept_provider_id claimed fresh) × (is_some (kept_provider_id claimed fresh) ≡ true)

  -- what the events of a history gave to its entry
  abbrev given : List Event → Option Result
  given past = given_in known number goal one past

  -- a number is kept exactly where the claim has no id that a reference can name
  number_needed : (past : List Event) (fresh : Option ℕ) → goal_at (known_of run past) number ≡ Some goal → decided_goal (known_of run past) number ≡ Some one
      → is_some fresh ≡ needs_fresh (known_of run past) number → is_some fresh ≡ is_none (usable_id (id_of_row claimed))
  number_needed past fresh here decided h =
      h ∙ ap (λ (o : Option Goal). some_passes is_provider_goal o && is_none (usable_id (id_of_row (claim_row (known_of run past) number)))) here
      ∙ ap (λ (b : Bool). b && is_none (usable_id (id_of_row (claim_row (known_of run past) number)))) provider
      ∙ ap (λ (claim : Option ℕ). is_none (usable_id (id_of_row (claimed_row (known_of run past).run claim))))
      (claim-of-decided (known_of run past) number one decided)
      ∙ ap (λ (fixed : Fixed). is_none (usable_id (id_of_row (claimed_row fixed one.claim)))) (run_of run past ∙ sym same_run)

  -- what the keep of a provider gives
  kept_now : (past : List Event) (fresh : Option ℕ) → OnlyGoal past → OnlyDecided past → MayBeKept (known_of run past) number fresh
      → HasId (option_or (given past) (Some (result_of_keep goal claimed one fresh))) (option_or (fresh_of past number) fresh)
  kept_now past fresh only_goal only_decided may =
      let ready : is_keep_ready (known_of run past) number ≡ true =
      and_right (not (has_problem (known_of run past))) (is_keep_ready (known_of run past) number)
      (and_left (is_ready (known_of run past) (to_keep number)) (not (passes_limit (known_of run past) (to_keep number))) may.due) in
      let found = decided_passes (known_of run past) number (keeps_goal (known_of run past) number) ready in
      let here : goal_at (known_of run past) number ≡ Some goal = found.2 ∙ ap (λ (it : Goal). Some it) (only_goal found.0 found.2) in
      let decided : decided_goal (known_of run past) number ≡ Some one = found.3 ∙ ap (λ (it : Decided). Some it) (only_decided found.1 found.3) in
      let placed : is_placed (known_of run past) number found.0 found.1 ≡ true =
      and_left _ (is_none (op_of_goal (known_of run past) number found.0 found.1)) (and_left _ (provider_stands (known_of run past) number found.0) found.4) in
      let unrecorded : is_recorded (known_of run past) number ≡ false =
      not_true (is_recorded (known_of run past) number) (and_right (not (is_refused found.1.decision)) (not (is_recorded (known_of run past) number))
      (and_left _ (references_recorded (known_of run past) found.0)
      (and_left _ (is_preview (known_of run past).run.mode || urn_is_free (known_of run past) found.0 found.1) placed))) in
      let new : has_number (recorded_of past) number ≡ false =
      subst (λ (events : List Event). has_number (recorded_of events) number ≡ false) (history_of run past) unrecorded in
      let keeps : KeepsClaim known.run one =
      subst (λ (fixed : Fixed). KeepsClaim fixed one) (run_of run past ∙ sym same_run) (keep_has_claim run past number one decided) in
      let there : is_some (kept_provider_id claimed fresh) ≡ true =
      id_there (usable_id (id_of_row claimed)) fresh (number_needed past fresh here decided may.number_there) in
      subst (λ (o : Option Result). HasId (option_or o (Some (result_of_keep goal claimed one fresh))) (option_or (fresh_of past number) fresh))
      (sym (unrecorded-gives known number goal one past new))
      (subst (λ (o : Option ℕ). HasId (Some (result_of_keep goal claimed one fresh)) (option_or o fresh)) (sym (fresh_unrecorded past number new))
      (result_of_keep goal claimed one fresh, refl, keep_id goal claimed one fresh provider keeps, there))

  -- what was given stays, where no number comes
  given_before : (past : List Event) (more : Option Result) → HasId (given past) (fresh_of past number)
      → HasId (option_or (given past) more) (option_or (fresh_of past number) None)
  given_before past more h =
      subst (λ (o : Option ℕ). HasId (option_or (given past) more) o) (sym (or_none (fresh_of past number)))
      (h.0, ap (λ (o : Option Result). option_or o more) h.1, h.2, h.3)

  -- one event more leaves the goal kept with its id, or keeps it so
  kept_step : (seat : ℕ) (past : List Event) (what : What) → MayHappen (known_of run past) seat what → OnlyGoal past → OnlyDecided past
      → list_any sent_for (begun_of past) ≡ false
      → (has_number (recorded_of past) number ≡ true → HasId (given past) (fresh_of past number))
      → has_number (cons_option (recorded_by past what) (recorded_of past)) number ≡ true
      → HasId (option_or (given past) (result_by known number goal one past what)) (option_or (fresh_of past number) (fresh_by number what))
  kept_step seat past (Kept own fresh) may only_goal only_decided none rest h = by (own == number) refl h
    where
      by : (b : Bool) → (own == number) ≡ b → (b || has_number (recorded_of past) number) ≡ true
          → HasId (option_or (given past) (option_or (only_if b (Some (result_of_keep goal claimed one fresh))) None))
          (option_or (fresh_of past number) (only_if b fresh))
      by true is h = kept_now past fresh only_goal only_decided
          (subst (λ (n : ℕ). MayBeKept (known_of run past) n fresh) (equal_numbers own number is) may)
      by false is h = given_before past None (rest h)
  kept_step seat past (Answered ticket said) may only_goal only_decided none rest h =
      given_before past (result_by known number goal one past (Answered ticket said)) (rest (answer_records_other past ticket said none h))
  kept_step seat past _ may only_goal only_decided none rest h = given_before past None (rest h)

  -- a recorded provider was kept, with the id by which references name it
  kept_found : (past : List Event) → IsOrderly run past → OnlyGoal past → OnlyDecided past → has_number (recorded_of past) number ≡ true
      → HasId (given past) (fresh_of past number)
  kept_found [] orderly only_goal only_decided h = absurd (let e : false ≡ true = h in cc)
  kept_found (event ∷ past) orderly only_goal only_decided h =
      kept_step event.seat past event.what orderly.1 (goal_before event past only_goal) (decided_before event past only_decided)
      (unsent past orderly.0 (goal_before event past only_goal))
      (kept_found past orderly.0 (goal_before event past only_goal) (decided_before event past only_decided)) h

-- the entry of a recorded provider has the id by which references name it
pub provider-id : (run : Fixed) (history : List Event) (number : ℕ) (goal : Goal) (one : Decided) (result : Result)
    → IsOrderly run history → is_recorded (known_of run history) number ≡ true → is_provider_goal goal ≡ true
    → goal_at (known_of run history) number ≡ Some goal → decided_goal (known_of run history) number ≡ Some one
    → recording_of (known_of run history) number goal one ≡ Some result
    → (result.id ≡ provider_id (known_of run history) number) × (is_some (provider_id (known_of run history) number) ≡ true)
provider-id run history number goal one result orderly recorded provider here decided found =
    let known : Known = known_of run history in
    let told : known.history ≡ history = history_of run history in
    let kept = kept_found run known number goal one (run_of run history) provider history orderly
    (only_there (goal_at known number) goal here) (only_there (decided_goal known number) one decided)
    (subst (λ (events : List Event). has_number (recorded_of events) number ≡ true) told recorded) in
    let first : recording_of known number goal one ≡ Some kept.0 =
    ap (λ (events : List Event). given_in known number goal one events) told ∙ kept.1 in
    let same : kept.0 ≡ result = let e : Some kept.0 ≡ Some result = sym first ∙ found in cc in
    let id : provider_id known number ≡ kept_provider_id (claimed_row known.run one.claim) (fresh_of history number) =
    ap (λ (claim : Option ℕ). option_or (usable_id (id_of_row (claimed_row known.run claim))) (option_map id_text (fresh_of known.history number)))
    (claim-of-decided known number one decided)
    ∙ ap (λ (events : List Event). kept_provider_id (claimed_row known.run one.claim) (fresh_of events number)) told in
    (ap (λ (it : Result). it.id) (sym same) ∙ kept.2 ∙ sym id, ap (λ (o : Option (List ℕ)). is_some o) id ∙ kept.3)
