-- What was begun without a problem was answered well once no ticket is open.
use Rattle.std.proofs.Common.{◌≡◌, ℕ, ◌==◌, Bool, true, false, ◌&&◌, ◌||◌, List, [], ◌∷◌, Option, Some, None, is_some, refl, sym, ◌∙◌, ap, subst, inl, inr, option_map, option_and_then, if◌then◌else◌}
use Rattle.std.specs.List.{cons_option, list_any}
use Rattle.std.specs.Option.{option_or}
use Rattle.std.proofs.Math.Bool.{or-true}
use Rattle.std.proofs.lemmas.Option.{same_Some}
use Rattle.pl_lemmas.proofs.Truth.{and_left, and_right}
use Rattle.pl_lemmas.proofs.Options.{some_there}
use Rattle.pl_lemmas.proofs.Numbers.{same_number, equal_numbers}
use Rattle.pl_lemmas.proofs.Each.{IsAmong}
use Rattle.pl_lemmas.specs.Words.{has_number, only_if, some_passes}
use Rattle.pl_state.specs.declared.goal.Goal.{Goal}
use Rattle.pl_events.specs.declared.event.Event.{Event}
use Rattle.pl_events.specs.declared.event.What.{What}
use Rattle.pl_events.specs.declared.event.What.TheVariants.{Answered}
use Rattle.pl_events.specs.declared.operation.Call.TheVariants as call
use Rattle.pl_events.specs.declared.operation.Op.{Op}
use Rattle.pl_events.specs.declared.operation.Op.TheVariants as op
use Rattle.pl_events.specs.declared.operation.Source.{Source}
use Rattle.pl_events.specs.declared.operation.Subject.{Subject}
use Rattle.pl_events.specs.declared.operation.Subject.TheVariants as subject
use Rattle.pl_events.specs.declared.reply.Reply.{Reply}
use Rattle.pl_events.specs.declared.reply.Reply.TheVariants as reply
use Rattle.pl_decide.specs.declared.problem.Problem.{Problem}
use Rattle.pl_decide.specs.declared.problem.Problem.TheVariants as problem
use Rattle.pl_events.specs.Replies.{reply_fits, tells_success, tells_trouble}
use Rattle.pl_model.specs.declared.errand.Closed.{Closed}
use Rattle.pl_model.specs.declared.errand.Errand.{Errand}
use Rattle.pl_model.specs.declared.fixed.Fixed.{Fixed}
use Rattle.pl_model.specs.Run.{Pairs}
use Rattle.pl_model.specs.Asked.{call_of}
use Rattle.pl_model.specs.Decisions.{checked_in}
use Rattle.pl_model.specs.Due.{has_open}
use Rattle.pl_model.specs.History.{known_of}
use Rattle.pl_model.specs.Known.{Known, has_problem, is_recorded}
use Rattle.pl_model.specs.Legal.{IsOrderly, MayBeAnswered, MayHappen}
use Rattle.pl_model.specs.Problems.{own_problem, problem_of_closed, problem_of_reply, urn_of_subject}
use Rattle.pl_model.specs.Recording.{goal_of_op, is_removed, is_thing, recorded_by_reply, recorded_of, removed_by_reply, removed_of, row_of_delete}
use Rattle.pl_model.specs.Tickets.{answers_of, begun_of, closed_by, errand_at, has_configured, is_configured, is_configured_reply, reply_if, reply_to, same_op, says_configured, was_begun}
use Rattle.pl_model_stays.proofs.Lists.Among.{any_found, any_among, find_among}
use Rattle.pl_model_stays.proofs.Lists.Growing.{answers_by, recordings-stay}
use Rattle.pl_model_stays.proofs.Operations.Lanes.{fit-success}
use Rattle.pl_model_stays.proofs.Goals.Subjects.{NamesGoal, MayName, IsNamed, begun-named}
use Rattle.pl_model_stays.proofs.Operations.Once.{equal_ops, history_of}
use Rattle.pl_model_stays.proofs.Goals.Standing.{answers_as, closed_with}
use Rattle.pl_model_stays.proofs.Goals.Staying.{recorded-as, same_op_self}
use Rattle.pl_model_stays.proofs.Operations.Ticketing.{WasAnswered, calm-before, errand-stays, errand-own, closed_answered, closed_errand}
use Rattle.pl_model_laws.proofs.Rows.Leaving.{removed_more}

-- ---- a reply that is no problem

module _ (known : Known) where
  urn_there : (on : Subject) (trouble : List ℕ → Problem) → NamesGoal known on
      → option_map trouble (urn_of_subject known on) ≡ None → ⊥
  urn_there (subject.Goal number) trouble named none =
      let e : Some (trouble named.0.urn) ≡ None =
      sym (ap (λ (o : Option Goal). option_map trouble (option_map (λ (goal : Goal). goal.urn) o)) named.1) ∙ none in
      cc
  urn_there _ trouble named none = named

  -- tells of nothing that went wrong
  no_trouble : (about : Op) (said : Reply) → IsNamed known about → problem_of_reply known about said ≡ None
      → tells_trouble (call_of about) said ≡ false
  no_trouble (op.CheckConfig on) (reply.CheckFailed reasons) named none = absurd (urn_there on problem.CheckFailed named none)
  no_trouble (op.Check on) (reply.CheckFailed reasons) named none = absurd (urn_there on problem.CheckFailed named none)
  no_trouble (op.Create on) (reply.MadePartly id outputs reasons) named none = absurd (urn_there on problem.PartialReply named none)
  no_trouble (op.Update on) (reply.ChangedPartly outputs reasons) named none = absurd (urn_there on problem.PartialReply named none)
  no_trouble about (reply.Error text) named none = absurd (let e : Some (problem.ErrorReply text) ≡ None = none in cc)
  no_trouble _ _ named none = refl

  -- the goal that is read was found
  not_gone : (on : Subject) (number : ℕ) → goal_of_op (op.Read on) ≡ Some number → MayName known on
      → problem_of_reply known (op.Read on) reply.Gone ≡ None → ⊥
  not_gone (subject.Goal own) number is named none = urn_there (subject.Goal own) problem.ImportMissing named none
  not_gone _ number is named none = absurd (let e : None ≡ Some number = is in cc)

  -- the thing of a goal is there
  thing_told : (about : Op) (said : Reply) (number : ℕ) → IsNamed known about → problem_of_reply known about said ≡ None
      → tells_success (call_of about) said ≡ true → goal_of_op about ≡ Some number → is_thing said ≡ true
  thing_told (op.Create on) (reply.Made id outputs) number named none success is = refl
  thing_told (op.Update on) (reply.Changed outputs) number named none success is = refl
  thing_told (op.Read on) (reply.Found id inputs outputs) number named none success is = refl
  thing_told (op.Read on) reply.Gone number named none success is = absurd (not_gone on number is named none)
  thing_told (op.Create on) _ number named none success is = absurd (let e : false ≡ true = success in cc)
  thing_told (op.Update on) _ number named none success is = absurd (let e : false ≡ true = success in cc)
  thing_told (op.Read on) _ number named none success is = absurd (let e : false ≡ true = success in cc)
  thing_told _ said number named none success is = absurd (let e : None ≡ Some number = is in cc)

-- a deletion that succeeds took something out
removed_told : (about : Op) (said : Reply) (row : ℕ) → row_of_delete about ≡ Some row → tells_success (call_of about) said ≡ true
    → is_removed said ≡ true
removed_told (op.Delete on) reply.Removed row is success = refl
removed_told (op.Delete on) _ row is success = absurd (let e : false ≡ true = success in cc)
removed_told _ said row is success = absurd (let e : None ≡ Some row = is in cc)

-- a reply tells of success, and of the thing of a goal that it is there
pub record GoesWell (about : Op) (said : Reply) : Type 0 where
  pub success : tells_success (call_of about) said ≡ true
  pub thing : (number : ℕ) → goal_of_op about ≡ Some number → is_thing said ≡ true

-- the second of two is there where the first is not
either_there : {X : Type 0} (o : Option X) (x : X) → is_some (option_or o (Some x)) ≡ true
either_there None x = refl
either_there (Some y) x = refl

-- what a reply comes to: the errand that it was given to went well, and is told of
pub record IsHeard (history : List Event) (ticket : ℕ) (said : Reply) : Type 0 where
  pub errand : Errand
  pub at : errand_at history ticket ≡ Some errand
  pub well : GoesWell errand.op said
  pub recorded : (number : ℕ) → goal_of_op errand.op ≡ Some number → has_number (recorded_of history) number ≡ true
  pub removed : (row : ℕ) → row_of_delete errand.op ≡ Some row → has_number (removed_of history) row ≡ true
  pub replied : is_some (reply_to (answers_of history) errand.op) ≡ true

module _ (run : Fixed) where
  -- an answer that is no problem goes well
  answer_well : (seat : ℕ) (past : List Event) (ticket : ℕ) (said : Reply) → IsOrderly run past
      → MayBeAnswered (known_of run past) seat ticket said
      → own_problem (known_of run past) (Answered ticket said) ≡ None
      → (errand : Errand) × (errand_at past ticket ≡ Some errand) × GoesWell errand.op said
  answer_well seat past ticket said orderly may none =
      by (errand_at past ticket) refl
      (subst (λ (events : List Event). some_passes (λ errand. reply_fits (call_of errand.op) said) (errand_at events ticket) ≡ true)
      (history_of run past) may.fits)
      (subst (λ (events : List Event). option_and_then (problem_of_closed (known_of run past)) (closed_by events (Answered ticket said)) ≡ None)
      (history_of run past) none)
    where
      by : (o : Option Errand) → errand_at past ticket ≡ o
          → some_passes (λ errand. reply_fits (call_of errand.op) said) o ≡ true
          → option_and_then (problem_of_closed (known_of run past))
          (option_map (closed_with said) (option_map (λ (errand : Errand). errand.op) o)) ≡ None
          → (errand : Errand) × (errand_at past ticket ≡ Some errand) × GoesWell errand.op said
      by None is form none = absurd (let e : false ≡ true = form in cc)
      by (Some errand) is form none =
          let there = find_among (λ (one : Errand). one.ticket == ticket) (begun_of past) errand is in
          let named : IsNamed (known_of run past) errand.op = begun-named run past errand orderly there.0 in
          let success : tells_success (call_of errand.op) said ≡ true =
          fit-success (call_of errand.op) said form (no_trouble (known_of run past) errand.op said named none) in (
            errand,
            is,
            record {
              success = success;
              thing = λ number on. thing_told (known_of run past) errand.op said number named none success on;
            },
          )

  -- so it is heard
  heard_answer : (seat : ℕ) (past : List Event) (ticket : ℕ) (said : Reply) → IsOrderly run past
      → MayHappen (known_of run past) seat (Answered ticket said)
      → own_problem (known_of run past) (Answered ticket said) ≡ None
      → IsHeard (record { seat = seat; what = Answered ticket said } ∷ past) ticket said
  heard_answer seat past ticket said orderly may none = heard (answer_well seat past ticket said orderly may none)
    where
      heard : (errand : Errand) × (errand_at past ticket ≡ Some errand) × GoesWell errand.op said
          → IsHeard (record { seat = seat; what = Answered ticket said } ∷ past) ticket said
      heard it = record {
        errand = it.0;
        at = it.1;
        well = it.2;
        recorded = λ number on.
            ap (λ (o : Option Errand). has_number (cons_option (option_and_then recorded_by_reply
            (option_map (closed_with said) (option_map (λ (errand : Errand). errand.op) o))) (recorded_of past)) number) it.1
            ∙ ap (λ (b : Bool). has_number (cons_option (only_if b (goal_of_op it.0.op)) (recorded_of past)) number) (it.2.thing number on)
            ∙ ap (λ (o : Option ℕ). has_number (cons_option o (recorded_of past)) number) on
            ∙ ap (λ (b : Bool). b || has_number (recorded_of past) number) (same_number number);
        removed = λ row on.
            ap (λ (o : Option Errand). has_number (cons_option (option_and_then removed_by_reply
            (option_map (closed_with said) (option_map (λ (errand : Errand). errand.op) o))) (removed_of past)) row) it.1
            ∙ ap (λ (b : Bool). has_number (cons_option (only_if b (row_of_delete it.0.op)) (removed_of past)) row)
            (removed_told it.0.op said row on it.2.success)
            ∙ ap (λ (o : Option ℕ). has_number (cons_option o (removed_of past)) row) on
            ∙ ap (λ (b : Bool). b || has_number (removed_of past) row) (same_number row);
        replied =
            ap (λ (o : Option Errand). is_some (reply_to (cons_option
            (option_map (closed_with said) (option_map (λ (errand : Errand). errand.op) o)) (answers_of past)) it.0.op)) it.1
            ∙ ap (λ (b : Bool). is_some (option_or (reply_to (answers_of past) it.0.op) (reply_if b said))) (same_op_self it.0.op)
            ∙ either_there (reply_to (answers_of past) it.0.op) said;
      }

  heard_before : (event : Event) (past : List Event) (ticket : ℕ) (said : Reply) → IsOrderly run (event ∷ past)
      → IsHeard past ticket said → IsHeard (event ∷ past) ticket said
  heard_before event past ticket said orderly it =
      let first = some_there (reply_to (answers_of past) it.errand.op) it.replied in
      record {
        errand = it.errand;
        at = errand-stays run event past ticket it.errand orderly it.at;
        well = it.well;
        recorded = λ number on. recordings-stay run event past number (it.recorded number on);
        removed = λ row on. removed_more run event past row (it.removed row on);
        replied = ap (λ (o : Option Reply). is_some o)
            (answers_by (closed_by past event.what) (answers_of past) it.errand.op first.0 first.1);
      }

  -- each reply is heard, in an orderly history without a problem
  pub heard : (history : List Event) (ticket : ℕ) (said : Reply) → IsOrderly run history
      → has_problem (known_of run history) ≡ false → WasAnswered history ticket said → IsHeard history ticket said
  heard [] ticket said orderly calm given = absurd given
  heard (event ∷ past) ticket said orderly calm (inl is) =
      let before = calm-before run event past calm in
      subst (λ (what : What). MayHappen (known_of run past) event.seat what → own_problem (known_of run past) what ≡ None
      → IsHeard (record { seat = event.seat; what = what } ∷ past) ticket said) (sym is)
      (heard_answer event.seat past ticket said orderly.0) orderly.1 before.1
  heard (event ∷ past) ticket said orderly calm (inr given) =
      heard_before event past ticket said orderly (heard past ticket said orderly.0 (calm-before run event past calm).0 given)

  replied_step : (seat : ℕ) (past : List Event) (what : What) (about : Op) (said : Reply) → IsOrderly run past
      → MayHappen (known_of run past) seat what → own_problem (known_of run past) what ≡ None
      → ((other : Reply) → reply_to (answers_of past) about ≡ Some other → GoesWell about other)
      → reply_to (cons_option (closed_by past what) (answers_of past)) about ≡ Some said → GoesWell about said
  replied_step seat past (Answered ticket given) about said orderly may none rest h =
      new (answer_well seat past ticket given orderly may none)
    where
      new : (errand : Errand) × (errand_at past ticket ≡ Some errand) × GoesWell errand.op given → GoesWell about said
      new it =
          by (reply_to (answers_of past) about) refl (same_op it.0.op about) refl
          (sym (ap (λ (o : Option Errand). reply_to (cons_option
          (option_map (closed_with given) (option_map (λ (errand : Errand). errand.op) o)) (answers_of past)) about) it.1) ∙ h)
        where
          by : (o : Option Reply) → reply_to (answers_of past) about ≡ o → (b : Bool) → same_op it.0.op about ≡ b
              → option_or o (reply_if b given) ≡ Some said → GoesWell about said
          by (Some first) is b same h = rest said (is ∙ h)
          by None is true same h =
              subst (λ (one : Op). GoesWell one said) (equal_ops it.0.op about same)
              (subst (λ (reply : Reply). GoesWell it.0.op reply) (same_Some given said h) it.2)
          by None is false same h = absurd (let e : None ≡ Some said = h in cc)
  replied_step seat past _ about said orderly may none rest h = rest said h

  -- each operation that was replied to went well
  pub replied-well : (history : List Event) (about : Op) (said : Reply) → IsOrderly run history
      → has_problem (known_of run history) ≡ false → reply_to (answers_of history) about ≡ Some said → GoesWell about said
  replied-well [] about said orderly calm h = absurd (let e : None ≡ Some said = h in cc)
  replied-well (event ∷ past) about said orderly calm h =
      let before = calm-before run event past calm in
      replied_step event.seat past event.what about said orderly.0 orderly.1 before.1
      (λ other was. replied-well past about other orderly.0 before.0 was) h

-- ---- once no ticket is open

has_configured_by : (history : List Event) (errand : Errand) → WasAnswered history errand.ticket reply.Configured
    → has_configured history errand ≡ true
has_configured_by [] errand given = absurd given
has_configured_by (event ∷ past) errand (inl is) =
    ap (λ (what : What). says_configured errand.ticket what || has_configured past errand) is
    ∙ ap (λ (b : Bool). is_configured_reply (if b then Some reply.Configured else None) || has_configured past errand)
    (same_number errand.ticket)
has_configured_by (event ∷ past) errand (inr given) =
    ap (λ (b : Bool). says_configured errand.ticket event.what || b) (has_configured_by past errand given)
    ∙ or-true (says_configured errand.ticket event.what)

configured_is : (provider : Source) (said : Reply) → tells_success (call_of (op.Configure provider)) said ≡ true → said ≡ reply.Configured
configured_is provider reply.Configured h = refl
configured_is provider _ h = absurd (let e : false ≡ true = h in cc)

module _ (run : Fixed) (history : List Event)
    (orderly : IsOrderly run history) (calm : has_problem (known_of run history) ≡ false)
    (closed : has_open (known_of run history) ≡ false) where
  -- each errand was answered well
  pub answered-well : (errand : Errand) → IsAmong errand (begun_of history)
      → (said : Reply) × WasAnswered history errand.ticket said × (tells_success (call_of errand.op) said ≡ true)
  answered-well errand there =
      let one = closed_answered run history errand.ticket orderly calm (closed_errand run history closed errand there) in
      let it = heard run history errand.ticket one.0 orderly calm one.1 in
      let same : it.errand ≡ errand = same_Some it.errand errand (sym it.at ∙ errand-own run history errand orderly there) in
      (one.0, one.1, subst (λ (other : Errand). tells_success (call_of other.op) one.0 ≡ true) same it.well.success)

  -- an operation that was begun was answered, and this is what came of it
  begun_heard : (about : Op) → was_begun history about ≡ true
      → (ticket : ℕ) × (said : Reply) × (it : IsHeard history ticket said) × (it.errand.op ≡ about)
  begun_heard about begun =
      let one = any_found (λ errand. same_op errand.op about) (begun_of history) begun in
      let given = closed_answered run history one.0.ticket orderly calm (closed_errand run history closed one.0 one.1) in
      let it = heard run history one.0.ticket given.0 orderly calm given.1 in
      let same : it.errand ≡ one.0 = same_Some it.errand one.0 (sym it.at ∙ errand-own run history one.0 orderly one.1) in
      (one.0.ticket, given.0, it, ap (λ (errand : Errand). errand.op) same ∙ equal_ops one.0.op about one.2)

  -- the reply to an operation that was begun came and tells of success
  pub reply-came : (about : Op) → was_begun history about ≡ true
      → (said : Reply) × (reply_to (known_of run history).answers about ≡ Some said) × (tells_success (call_of about) said ≡ true)
  reply-came about begun =
      let one = begun_heard about begun in
      let there = some_there (reply_to (answers_of history) about)
      (subst (λ (other : Op). is_some (reply_to (answers_of history) other) ≡ true) one.3 one.2.replied) in (
        there.0,
        ap (λ (answers : List Closed). reply_to answers about) (answers_as run history)
            ∙ ap (λ (events : List Event). reply_to (answers_of events) about) (history_of run history) ∙ there.1,
        (replied-well run history about there.0 orderly calm there.1).success,
      )

  -- the goal that an operation makes, changes or reads is recorded
  pub goal-recorded : (about : Op) (number : ℕ) → goal_of_op about ≡ Some number → was_begun history about ≡ true
      → is_recorded (known_of run history) number ≡ true
  goal-recorded about number on begun =
      let one = begun_heard about begun in
      recorded-as run history number ∙ one.2.recorded number (ap (λ (other : Op). goal_of_op other) one.3 ∙ on)

  -- the row that a deletion was begun of is gone
  pub row-removed : (row : ℕ) → was_begun history (op.Delete (subject.Row row)) ≡ true → has_number (removed_of history) row ≡ true
  row-removed row begun =
      let one = begun_heard (op.Delete (subject.Row row)) begun in
      one.2.removed row (ap (λ (other : Op). row_of_delete other) one.3)

  -- the lane on which a configuration was begun is configured
  pub errand-configured : (errand : Errand) (provider : Source) → IsAmong errand (begun_of history)
      → errand.op ≡ op.Configure provider → is_configured history errand.lane ≡ true
  errand-configured errand provider there is =
      let one = answered-well errand there in
      let same : one.0 ≡ reply.Configured =
      configured_is provider one.0 (subst (λ (about : Op). tells_success (call_of about) one.0 ≡ true) is one.2) in
      any_among (λ other. other.lane == errand.lane && has_configured history other) (begun_of history) errand there
      (ap (λ (b : Bool). b && has_configured history errand) (same_number errand.lane)
      ∙ has_configured_by history errand (subst (λ (said : Reply). WasAnswered history errand.ticket said) same one.1))

  pub lane-configured : (lane : ℕ) (provider : Source)
      → list_any (λ errand. errand.lane == lane && same_op errand.op (op.Configure provider)) (begun_of history) ≡ true
      → is_configured history lane ≡ true
  lane-configured lane provider begun =
      let one = any_found (λ errand. errand.lane == lane && same_op errand.op (op.Configure provider)) (begun_of history) begun in
      let on : one.0.lane ≡ lane = equal_numbers one.0.lane lane (and_left _ (same_op one.0.op (op.Configure provider)) one.2) in
      subst (λ (place : ℕ). is_configured history place ≡ true) on
      (errand-configured one.0 provider one.1
      (equal_ops one.0.op (op.Configure provider) (and_right (one.0.lane == lane) _ one.2)))

-- ---- what checks and diffs reply

config_told : (said : Reply) → tells_success call.CheckConfig said ≡ true → (fields : Pairs) × (checked_in (Some said) ≡ Some fields)
config_told (reply.Checked fields) h = (fields, refl)
config_told _ h = absurd (let e : false ≡ true = h in cc)

module _ (run : Fixed) (history : List Event)
    (orderly : IsOrderly run history) (calm : has_problem (known_of run history) ≡ false)
    (closed : has_open (known_of run history) ≡ false) (on : Subject) where
  -- the checked inputs of a provider came
  pub config-came : was_begun history (op.CheckConfig on) ≡ true
      → (fields : Pairs) × (checked_in (reply_to (known_of run history).answers (op.CheckConfig on)) ≡ Some fields)
  config-came begun =
      let one = reply-came run history orderly calm closed (op.CheckConfig on) begun in
      let told = config_told one.0 one.2 in
      (told.0, ap (λ (o : Option Reply). checked_in o) one.1 ∙ told.1)
