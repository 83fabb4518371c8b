-- The state of an orderly history has the form that the checkpoint gives it, where the state at the start has.
use Rattle.std.proofs.Common.{◌≡◌, ℕ, ◌+◌, ◌==◌, Bool, true, false, not, if◌then◌else◌, List, [], ◌∷◌, ◌++◌, filter, find, length, map, reverse, slice_get, Option, Some, None, Ok, Err, refl, sym, ◌∙◌, subst, option_map, option_and_then, suc}
use Rattle.std.specs.List.{cons_option, enumerate_from, fold}
use Rattle.std.specs.Option.{option_or}
use Rattle.std.proofs.lemmas.Option.{same_Some}
use Rattle.pl_lemmas.proofs.Truth.{and_right}
use Rattle.pl_lemmas.proofs.Each.{Each, each_always, each_weaker, each_append, each_reverse, each_all, all_each, among_each, each_at}
use Rattle.pl_urn.specs.Grammar.{package_of}
use Rattle.pl_options.specs.GoalOf.{GoalResult, given, goal_of}
use Rattle.pl_options.specs.Ignored.{with_ignored}
use Rattle.pl_decide.specs.Permits.{is_wanted}
use Rattle.pl_state.specs.Formed.{are_shallow, is_formed_row}
use Rattle.pl_state.specs.Kinds.{is_managed, is_provider_goal, kin_of}
use Rattle.pl_state.specs.References.{keeps_urn}
use Rattle.pl_state.specs.declared.entry.Entry.{Entry}
use Rattle.pl_state.specs.declared.goal.Diffed.{Diffed}
use Rattle.pl_state.specs.declared.goal.Goal.{Goal}
use Rattle.pl_state.specs.declared.goal.Registration.{Registration}
use Rattle.pl_state.specs.declared.pending.Pending.{Pending}
use Rattle.pl_state.specs.declared.pending.PendingKind.{PendingKind}
use Rattle.pl_state.specs.declared.pending.PendingKind.TheVariants.{Creating, Updating, Deleting}
use Rattle.pl_events.specs.Replies.{is_formed_reply, is_reply_to_call, reply_fits}
use Rattle.pl_events.specs.Requests.{is_formed_registration, is_formed_request, is_request_number}
use Rattle.pl_events.specs.declared.event.Event.{Event}
use Rattle.pl_events.specs.declared.event.Request.{Request}
use Rattle.pl_events.specs.declared.event.Request.TheVariants.{Register, Outputs, Invoke}
use Rattle.pl_events.specs.declared.event.What.{What}
use Rattle.pl_events.specs.declared.event.What.TheVariants.{Told, Begun, Answered, Kept}
use Rattle.pl_events.specs.declared.operation.Op.{Op}
use Rattle.pl_events.specs.declared.operation.Op.TheVariants as op
use Rattle.pl_events.specs.declared.operation.Subject.TheVariants as subject
use Rattle.pl_events.specs.declared.reply.Reply.{Reply}
use Rattle.pl_events.specs.declared.reply.Reply.TheVariants as reply
use Rattle.pl_refresh.specs.Refreshed.{Left, all_left, imported_left, left_of, pruned_behind, pruned_row, replaced_left, rows_left}
use Rattle.pl_refresh.specs.declared.row_now.RowNow.{RowNow}
use Rattle.pl_refresh.specs.declared.row_now.RowNow.TheVariants as row_now
use Rattle.pl_model.specs.declared.decided.Decided.{Decided}
use Rattle.pl_model.specs.declared.errand.Closed.{Closed}
use Rattle.pl_model.specs.declared.errand.Opened.{Opened}
use Rattle.pl_model.specs.declared.fixed.Fixed.{Fixed}
use Rattle.pl_model.specs.declared.heard.Fate.{Fate}
use Rattle.pl_model.specs.declared.heard.Fate.TheVariants.{Accepted as accepted, Halted as halted, Refused as refused}
use Rattle.pl_model.specs.declared.heard.Heard.{Heard}
use Rattle.pl_model.specs.Run.{Pairs, is_refresh, rows_of}
use Rattle.pl_model.specs.Asked.{call_of}
use Rattle.pl_lemmas.specs.Words.{first_some, has_number, numbered, only_if}
use Rattle.pl_lemmas.proofs.Options.{passing}
use Rattle.pl_model.specs.Claims.{claimed_row, id_of_row}
use Rattle.pl_model.specs.Decisions.{Turn, checked_at, checked_in, claim_at, decided_at, decided_by, diff_at, inputs_at, inputs_over, kin_at, needs_check, turn_of}
use Rattle.pl_model.specs.Entries.{Result, goal_entry, new_entries, numbers_in, old_entries, old_row, outputs_of_row, recorded_entry, recording_of, result_answered, result_by, result_from, result_of_keep, result_of_reply, result_with, row_now as stands_now, told_by, told_outputs, turned_entry, turnings, with_outputs}
use Rattle.pl_model.specs.History.{asked_after, goals_after, known_of}
use Rattle.pl_model.specs.Known.{Known, decided_goal, goal_at}
use Rattle.pl_model.specs.Legal.{IsOrderly, MayHappen}
use Rattle.pl_model.specs.Recording.{recorded_by_reply, recorded_of}
use Rattle.pl_model.specs.Requests.{asked_by, default_goal, default_urn, fate_of, goals_by, goals_made, has_goal, inputs_or, invoked_version, named_provider, uses_default, version_inputs, with_default, with_goal, with_invoked, with_provider, with_result}
use Rattle.pl_model.specs.Rows.{is_marked, is_to_be_made, left_rows, pending_at, row_at}
use Rattle.pl_model.specs.State.{base_pending, creating_entry, entries_now, found_by, imported_by, imported_entries, is_cleared, opened_by, opened_of, own_pending, pending_for, pending_of, pending_read, pending_with, refreshed_entries, row_read, rows_read, state_of, updating_entry, updating_result, was_answered}
use Rattle.pl_model.specs.Tickets.{answers_of, errand_at, op_at, reply_if, reply_to, same_op}
use Rattle.pl_model_stays.proofs.Lists.Among.{find_among}
use Rattle.pl_model_stays.proofs.Goals.Claiming.{was-made}
use Rattle.pl_model_stays.proofs.Lists.Growing.{run_of}
use Rattle.pl_model_stays.proofs.Operations.Once.{history_of}
use Rattle.pl_model_stays.proofs.Lists.Pairs.{each-filter, each-mapped, each_map}
use Rattle.pl_model_stays.proofs.Goals.Standing.{answers_as, closed_with}
use Rattle.pl_model_ends.specs.Ends.{StatesFormed}
use Rattle.pl_model_ends.proofs.Forms.{Form, GoalForm, IfFormed, IfResult, entry-form, form-of, formed-by, keep-form, outputs-form, pruned-form, refreshed-form, replaced-form, reply-form, told-form, told-outputs-form, turns-form, with_form}
use Rattle.pl_model_ends.proofs.Fulfilling.{event_of, opened_with}
use Rattle.pl_model_ends.proofs.Shallow.{ignored-shallow, version-shallow}

-- ---- lists

numbered_each : {X : Type 0} (P : X → Type 0) (n : ℕ) (xs : List X) → Each P xs → Each (λ (one : ℕ × X). P one.1) (enumerate_from n xs)
numbered_each P n [] all = tt
numbered_each P n (x ∷ xs) all = (all.0, numbered_each P (n + 1) xs all.1)

abbrev pub left_at : ℕ → Entry → Left
left_at place row = record { place = place; row = row }

-- ---- what holds of all that a history tells

abbrev Formed : Entry → Type 0
Formed row = is_formed_row row ≡ true

module _ (run : Fixed) (rows : Each Form (rows_of run)) where
  row_form : (o : Option ℕ) → IfFormed (claimed_row run o)
  row_form None = tt
  row_form (Some row) = by (slice_get (rows_of run) row) refl
    where
      by : (o : Option Entry) → slice_get (rows_of run) row ≡ o → IfFormed o
      by None is = tt
      by (Some entry) is = each_at Form (rows_of run) row entry rows is

  kin_form : (o : Option Entry) → IfFormed o → IfFormed (kin_of o)
  kin_form None form = tt
  kin_form (Some claim) form = by (is_managed claim)
    where
      by : (b : Bool) → IfFormed (if b then Some claim else None)
      by true = form
      by false = tt

  -- ---- goals

  default_form : (known : Known) (provided : List ℕ) (version : Option (List ℕ)) → known.run ≡ run → GoalForm (default_goal known provided version)
  default_form known provided version same = record {
    kind = refl;
    keys = refl;
    inputs = by (find (keeps_urn (default_urn known provided version)) (rows_of known.run)) refl;
    import_id = refl;
    read_id = refl;
  }
    where
      by : (o : Option Entry) → find (keeps_urn (default_urn known provided version)) (rows_of known.run) ≡ o
          → are_shallow (inputs_or o (version_inputs version)) ≡ true
      by None is = version-shallow version
      by (Some row) is =
          (among_each Form (rows_of known.run) row (subst (λ (fixed : Fixed). Each Form (rows_of fixed)) (sym same) rows)
          (find_among (keeps_urn (default_urn known provided version)) (rows_of known.run) row is).0).inputs

  provided_form : (goal : Goal) (provider : Option ℕ) → GoalForm goal → GoalForm (record goal { provider = provider })
  provided_form goal provider form = record {
    kind = form.kind;
    keys = form.keys;
    inputs = form.inputs;
    import_id = form.import_id;
    read_id = form.read_id;
  }

  module _ (known : Known) (same : known.run ≡ run) (all : Each GoalForm known.goals) where
    goals_default : (provided : List ℕ) (version : Option (List ℕ)) → Each GoalForm (with_default known provided version)
    goals_default provided version = by (has_goal known (default_urn known provided version))
      where
        by : (b : Bool) → Each GoalForm (if b then known.goals else default_goal known provided version ∷ known.goals)
        by true = all
        by false = (default_form known provided version same, all)

    goals_with : (told : Registration) (goal : Goal) → GoalForm goal → Each GoalForm (with_goal known told goal)
    goals_with told goal form = by (uses_default told goal)
      where
        by : (b : Bool) → Each GoalForm (if b
            then with_provider (with_default known (package_of goal.urn) goal.version) (default_urn known (package_of goal.urn) goal.version) goal
            else record goal { provider = named_provider known (given told.provider) } ∷ known.goals)
        by true = (provided_form goal _ form, goals_default (package_of goal.urn) goal.version)
        by false = (provided_form goal _ form, all)

    goals_result : (told : Registration) (result : GoalResult) → ((goal : Goal) → result ≡ Ok goal → GoalForm goal)
        → Each GoalForm (with_result known told result)
    goals_result told (Err fault) form = all
    goals_result told (Ok goal) form = goals_with told goal (form goal refl)

    goals_invoked : (token : List ℕ) (provider version : Option (List ℕ)) → Each GoalForm (with_invoked known token provider version)
    goals_invoked token None version = goals_default _ version
    goals_invoked token (Some text) version = all

    goals_of_request : (request : Request) → is_formed_request request ≡ true → Each GoalForm (goals_made known request)
    goals_of_request (Register n told) h =
        goals_result told (goal_of known.run.stack known.run.project told)
        (λ goal made. told-form known.run.stack known.run.project told goal (and_right (is_request_number n) (is_formed_registration told) h) made)
    goals_of_request (Outputs n urn outputs) h = all
    goals_of_request (Invoke n token args provider version) h = goals_invoked token (given provider) (invoked_version version)

    goals_fate : (request : Request) (fate : Fate) → is_formed_request request ≡ true → Each GoalForm (goals_by known request fate)
    goals_fate request accepted h = goals_of_request request h
    goals_fate request halted h = all
    goals_fate request (refused problem) h = all

    goals_step : (seat : ℕ) (what : What) → MayHappen known seat what → Each GoalForm (goals_after known what)
    goals_step seat (Told request) may = goals_fate request (fate_of known request) may.formed
    goals_step seat _ may = all

  -- each goal has the form of one
  goals-formed : (history : List Event) → IsOrderly run history → Each GoalForm (known_of run history).goals
  unfolding known_of
  goals-formed [] orderly = tt
  goals-formed (event ∷ past) orderly =
      goals_step (known_of run past) (run_of run past) (goals-formed past orderly.0) event.seat event.what orderly.1

  -- ---- requests and answers

  abbrev Asks : Heard → Type 0
  Asks heard = is_formed_request heard.request ≡ true

  asks_by : (known : Known) (request : Request) (fate : Fate) → is_formed_request request ≡ true → Asks (asked_by known request fate)
  asks_by known request accepted h = h
  asks_by known request halted h = h
  asks_by known request (refused problem) h = h

  asked_step : (known : Known) (seat : ℕ) (what : What) → MayHappen known seat what → Each Asks known.asked → Each Asks (asked_after known what)
  asked_step known seat (Told request) may all = (asks_by known request (fate_of known request) may.formed, all)
  asked_step known seat _ may all = all

  asked-formed : (history : List Event) → IsOrderly run history → Each Asks (known_of run history).asked
  unfolding known_of
  asked-formed [] orderly = tt
  asked-formed (event ∷ past) orderly = asked_step (known_of run past) event.seat event.what orderly.1 (asked-formed past orderly.0)

  abbrev Answers : Closed → Type 0
  Answers closed = is_formed_reply closed.reply ≡ true

  -- a reply that may come has the form of one
  reply_formed : (past : List Event) (seat ticket : ℕ) (said : Reply) → MayHappen (known_of run past) seat (Answered ticket said)
      → is_formed_reply said ≡ true
  reply_formed past seat ticket said may =
      let it = passing (λ errand. reply_fits (call_of errand.op) said) (errand_at (known_of run past).history ticket) may.fits in
      and_right (is_reply_to_call (call_of it.0.op) said) (is_formed_reply said) it.2

  answers_step : (seat : ℕ) (past : List Event) (what : What) → MayHappen (known_of run past) seat what → Each Answers (answers_of past)
      → Each Answers (answers_of (event_of seat what ∷ past))
  answers_step seat past (Answered ticket said) may all = by (op_at past ticket)
    where
      by : (o : Option Op) → Each Answers (cons_option (option_map (closed_with said) o) (answers_of past))
      by None = all
      by (Some about) = (reply_formed past seat ticket said may, all)
  answers_step seat past _ may all = all

  answers_formed : (history : List Event) → IsOrderly run history → Each Answers (answers_of history)
  answers_formed [] orderly = tt
  answers_formed (event ∷ past) orderly = answers_step event.seat past event.what orderly.1 (answers_formed past orderly.0)

  reply_among : (answers : List Closed) (about : Op) (said : Reply) → Each Answers answers → reply_to answers about ≡ Some said
      → is_formed_reply said ≡ true
  reply_among [] about said all h = absurd (let e : None ≡ Some said = h in cc)
  reply_among (closed ∷ earlier) about said all h =
      by (reply_to earlier about) refl (same_op closed.op about) h (reply_among earlier about said all.1)
    where
      by : (o : Option Reply) → reply_to earlier about ≡ o → (b : Bool) → option_or o (reply_if b closed.reply) ≡ Some said
          → (reply_to earlier about ≡ Some said → is_formed_reply said ≡ true) → is_formed_reply said ≡ true
      by (Some other) is b h rest = rest (is ∙ h)
      by None is true h rest = subst (λ (one : Reply). is_formed_reply one ≡ true) (same_Some closed.reply said h) all.0
      by None is false h rest = absurd (let e : None ≡ Some said = h in cc)

  -- ---- checked inputs

  checked_reply : (answers : List Closed) (about : Op) (checked : Pairs) → Each Answers answers
      → checked_in (reply_to answers about) ≡ Some checked → are_shallow checked ≡ true
  checked_reply answers about checked all h = by (reply_to answers about) refl h
    where
      by : (o : Option Reply) → reply_to answers about ≡ o → checked_in o ≡ Some checked → are_shallow checked ≡ true
      by (Some (reply.Checked fields)) is h =
          subst (λ (one : Pairs). are_shallow one ≡ true) (same_Some fields checked h) (reply_among answers about (reply.Checked fields) all is)
      by _ is h = absurd (let e : None ≡ Some checked = h in cc)

  module _ (answers : List Closed) (all : Each Answers answers) (earlier : List Goal) (before : List Decided) (goal : Goal) (form : GoalForm goal) where
    abbrev turn : Turn
    turn = turn_of run answers earlier before goal

    inputs_low : are_shallow (inputs_at turn) ≡ true
    inputs_low = by (kin_at turn) (kin_form (claim_at turn) (row_form turn.claim))
      where
        over : (kin : Entry) → Form kin → (b : Bool) → are_shallow (if b then with_ignored goal kin.inputs else kin.inputs) ≡ true
        over kin its true = ignored-shallow goal kin.inputs form.inputs
        over kin its false = its.inputs

        by : (o : Option Entry) → IfFormed o → are_shallow (inputs_over turn o) ≡ true
        by None its = form.inputs
        by (Some kin) its = over kin its (is_wanted run.limits goal.urn)

    checked_low : (checked : Pairs) → checked_at turn ≡ Some checked → are_shallow checked ≡ true
    checked_low checked h = by (is_provider_goal goal) (needs_check turn) h
      where
        by : (provider needed : Bool)
            → (if provider then checked_in (reply_to answers (op.CheckConfig (subject.Goal (length earlier))))
            else (if needed then checked_in (reply_to answers (op.Check (subject.Goal (length earlier)))) else Some (inputs_at turn))) ≡ Some checked
            → are_shallow checked ≡ true
        by true needed h = checked_reply answers (op.CheckConfig (subject.Goal (length earlier))) checked all h
        by false true h = checked_reply answers (op.Check (subject.Goal (length earlier))) checked all h
        by false false h = subst (λ (one : Pairs). are_shallow one ≡ true) (same_Some (inputs_at turn) checked h) inputs_low

    decided_low : (one : Decided) → decided_at turn ≡ Some one → are_shallow one.checked ≡ true
    decided_low one h = by (checked_at turn) refl (diff_at turn) h
      where
        by : (checked : Option Pairs) → checked_at turn ≡ checked → (diff : Option (Option Diffed))
            → option_and_then (λ (fields : Pairs). option_map (decided_by turn fields) diff) checked ≡ Some one → are_shallow one.checked ≡ true
        by None is diff h = absurd (let e : None ≡ Some one = h in cc)
        by (Some fields) is None h = absurd (let e : None ≡ Some one = h in cc)
        by (Some fields) is (Some diff) h =
            subst (λ (it : Decided). are_shallow it.checked ≡ true) (same_Some (decided_by turn fields diff) one h) (checked_low fields is)

  each_numbered : {X : Type 0} (P : X → Type 0) (xs : List X) (number : ℕ) (x : X) → Each P xs
      → numbered xs number ≡ Some x → P x
  each_numbered P [] number x all h = absurd (let e : None ≡ Some x = h in cc)
  each_numbered {X = X} P (newest ∷ earlier) number x all h = by (length earlier == number) h (each_numbered P earlier number x all.1)
    where
      by : (b : Bool) → (if b then Some newest else numbered earlier number) ≡ Some x
          → (numbered earlier number ≡ Some x → P x) → P x
      by true h rest = subst (λ (one : X). P one) (same_Some newest x h) all.0
      by false h rest = rest h

  -- the checked inputs of each decided goal are not too deep
  checked-low : (history : List Event) (number : ℕ) (one : Decided) → IsOrderly run history
      → decided_goal (known_of run history) number ≡ Some one → are_shallow one.checked ≡ true
  checked-low history number one orderly h =
      let made = was-made run history number one h in
      decided_low (answers_of (known_of run history).history)
      (subst (λ (events : List Event). Each Answers (answers_of events)) (sym (history_of run history)) (answers_formed history orderly))
      made.earlier made.before made.goal
      (each_numbered GoalForm (known_of run history).goals number made.goal (goals-formed history orderly) made.stands) one made.made

  -- ---- what recorded a goal gave

  module _ (known : Known) (same : known.run ≡ run) (number : ℕ) (goal : Goal) (goal_form : GoalForm goal) (one : Decided)
      (low : are_shallow one.checked ≡ true) where
    claim_form : IfFormed (claimed_row known.run one.claim)
    claim_form = subst (λ (fixed : Fixed). IfFormed (claimed_row fixed one.claim)) (sym same) (row_form one.claim)

    result_step : (seat : ℕ) (past : List Event) (what : What) → MayHappen (known_of run past) seat what
        → IfResult (result_by known number goal one past what)
    result_step seat past (Kept kept fresh) may = by (kept == number)
      where
        by : (b : Bool) → IfResult (option_or (only_if b (Some (result_of_keep goal (claimed_row known.run one.claim) one fresh))) None)
        by true = keep-form goal goal_form (claimed_row known.run one.claim) claim_form one low fresh
        by false = tt
    result_step seat past (Answered ticket said) may = by (op_at past ticket)
      where
        given_by : (b : Bool) → IfResult (only_if b (result_of_reply (claimed_row known.run one.claim) said))
        given_by true = reply-form (claimed_row known.run one.claim) said claim_form (reply_formed past seat ticket said may)
        given_by false = tt

        by : (o : Option Op) → IfResult (option_and_then (result_answered known number one) (option_map (closed_with said) o))
        by None = tt
        by (Some about) = given_by (has_number (numbers_in (recorded_by_reply (closed_with said about))) number)
    result_step seat past _ may = tt

    or_result : (first second : Option Result) → IfResult first → IfResult second → IfResult (option_or first second)
    or_result None second h k = k
    or_result (Some result) second h k = h

    results_formed : (past : List Event) → IsOrderly run past → IfResult (result_from known number goal one past)
    results_formed [] orderly = tt
    results_formed (event ∷ past) orderly =
        or_result (result_from known number goal one past) (result_by known number goal one past event.what)
        (results_formed past orderly.0) (result_step event.seat past event.what orderly.1)

  module _ (history : List Event) (orderly : IsOrderly run history) where
    abbrev now : Known
    now = known_of run history

    goal_form : (number : ℕ) (goal : Goal) → goal_at now number ≡ Some goal → GoalForm goal
    goal_form number goal h = each_numbered GoalForm now.goals number goal (goals-formed history orderly) h

    told_low : (number : ℕ) (asked : List Heard) (outputs : Pairs) → Each Asks asked
        → first_some (λ (heard : Heard). told_by number heard.request heard.about) asked ≡ Some outputs → are_shallow outputs ≡ true
    told_low number [] outputs all h = absurd (let e : None ≡ Some outputs = h in cc)
    told_low number (heard ∷ earlier) outputs all h =
        by (told_by number heard.request heard.about) refl h (told_low number earlier outputs all.1)
      where
        one : (request : Request) (about : Option ℕ) → is_formed_request request ≡ true → told_by number request about ≡ Some outputs
            → are_shallow outputs ≡ true
        one (Outputs n urn fields) (Some own) formed h = at (own == number) h
          where
            at : (b : Bool) → only_if b (Some fields) ≡ Some outputs → are_shallow outputs ≡ true
            at true h =
                subst (λ (it : Pairs). are_shallow it ≡ true) (same_Some fields outputs h)
                (and_right (is_request_number n) (are_shallow fields) formed)
            at false h = absurd (let e : None ≡ Some outputs = h in cc)
        one _ about formed h = absurd (let e : None ≡ Some outputs = h in cc)

        by : (o : Option Pairs) → told_by number heard.request heard.about ≡ o
            → option_or o (first_some (λ (other : Heard). told_by number other.request other.about) earlier) ≡ Some outputs
            → (first_some (λ (other : Heard). told_by number other.request other.about) earlier ≡ Some outputs → are_shallow outputs ≡ true)
            → are_shallow outputs ≡ true
        by (Some fields) is h rest = one heard.request heard.about all.0 (is ∙ h)
        by None is h rest = rest h

    recorded_form : (number : ℕ) (row : Entry) → recorded_entry now number ≡ Some row → Form row
    recorded_form number row h = by (goal_at now number) refl (decided_goal now number) refl h
      where
        made : (goal : Goal) (one : Decided) → goal_at now number ≡ Some goal → decided_goal now number ≡ Some one
            → (o : Option Result) → IfResult o
            → option_map (with_outputs (told_outputs now number)) (option_map (goal_entry now goal one) o) ≡ Some row → Form row
        made goal one stands decided None form h = absurd (let e : None ≡ Some row = h in cc)
        made goal one stands decided (Some result) form h =
            subst (λ (it : Entry). Form it) (same_Some _ row h)
            (told-outputs-form (told_outputs now number) (goal_entry now goal one result)
            (entry-form now goal one result (goal_form number goal stands) (checked-low history number one orderly decided) form)
            (λ outputs told. told_low number now.asked outputs (asked-formed history orderly) told))

        by : (goal : Option Goal) → goal_at now number ≡ goal → (one : Option Decided) → decided_goal now number ≡ one
            → option_map (with_outputs (told_outputs now number)) (option_and_then (λ (it : Goal). option_and_then (λ (its : Decided).
            option_map (goal_entry now it its) (recording_of now number it its)) one) goal) ≡ Some row → Form row
        by None stands one decided h = absurd (let e : None ≡ Some row = h in cc)
        by (Some goal) stands None decided h = absurd (let e : None ≡ Some row = h in cc)
        by (Some goal) stands (Some one) decided h =
            made goal one stands decided (recording_of now number goal one)
            (subst (λ (events : List Event). IfResult (result_from now number goal one events)) (sym (history_of run history))
            (results_formed now (run_of run history) number goal (goal_form number goal stands) one
            (checked-low history number one orderly decided) history orderly)) h

    new_formed : Each Form (new_entries now)
    new_formed =
        each-mapped (recorded_entry now) Form (reverse (recorded_of now.history))
        (each_always (λ number. (row : Entry) → recorded_entry now number ≡ Some row → Form row) recorded_form (reverse (recorded_of now.history)))

    -- ---- old rows

    base_form : (row : ℕ) (entry : Entry) → row_at now row ≡ Some entry → Form entry
    base_form row entry h =
        each_at Form (rows_of run) row entry rows (subst (λ (fixed : Fixed). slice_get (rows_of fixed) row ≡ Some entry) (run_of run history) h)

    marked_form : (entry : Entry) (doomed again : Bool) → Form entry → Form (record entry { doomed = doomed; pending_replacement = again })
    marked_form entry doomed again form = record {
      kind = form.kind;
      id = form.id;
      keys = form.keys;
      inputs = form.inputs;
      outputs = form.outputs;
    }

    old_form : (row : ℕ) (entry : Entry) → old_row now row ≡ Some entry → Form entry
    old_form row entry h = by (row_at now row) refl h
      where
        by : (o : Option Entry) → row_at now row ≡ o → option_map (stands_now now row) o ≡ Some entry → Form entry
        by None is h = absurd (let e : None ≡ Some entry = h in cc)
        by (Some base) is h =
            subst (λ (it : Entry). Form it) (same_Some (stands_now now row base) entry h)
            (marked_form (fold turned_entry base (turnings now)) (is_marked now row) (is_to_be_made now row) (turns-form (turnings now) base (base_form row base is)))

    old_formed : Each Form (old_entries now)
    old_formed =
        each-mapped (old_row now) Form (left_rows now)
        (each_always (λ row. (entry : Entry) → old_row now row ≡ Some entry → Form entry) old_form (left_rows now))

    -- ---- what is opened

    creating_form : (number : ℕ) (entry : Entry) → creating_entry now number ≡ Some entry → Form entry
    creating_form number entry h = by (goal_at now number) refl (decided_goal now number) refl h
      where
        by : (goal : Option Goal) → goal_at now number ≡ goal → (one : Option Decided) → decided_goal now number ≡ one
            → option_and_then (λ (it : Goal). option_map (λ (its : Decided). goal_entry now it its (result_with None [] [])) one) goal ≡ Some entry
            → Form entry
        by None stands one decided h = absurd (let e : None ≡ Some entry = h in cc)
        by (Some goal) stands None decided h = absurd (let e : None ≡ Some entry = h in cc)
        by (Some goal) stands (Some one) decided h =
            subst (λ (it : Entry). Form it) (same_Some (goal_entry now goal one (result_with None [] [])) entry h)
            (entry-form now goal one (result_with None [] []) (goal_form number goal stands) (checked-low history number one orderly decided)
            (with_form None [] [] refl refl))

    updating_form : (number : ℕ) (entry : Entry) → updating_entry now number ≡ Some entry → Form entry
    updating_form number entry h = by (goal_at now number) refl (decided_goal now number) refl h
      where
        over : (goal : Goal) (one : Decided) → GoalForm goal → are_shallow one.checked ≡ true
            → (o : Option Entry) → IfFormed o
            → Form (record (goal_entry now goal one (result_with (id_of_row o) [] [])) { outputs = outputs_of_row o })
        over goal one form low None its =
            outputs-form (goal_entry now goal one (result_with None [] [])) []
            (entry-form now goal one (result_with None [] []) form low (with_form None [] [] refl refl)) refl
        over goal one form low (Some claim) its =
            outputs-form (goal_entry now goal one (result_with claim.id [] [])) claim.outputs
            (entry-form now goal one (result_with claim.id [] []) form low (with_form claim.id [] [] its.id refl)) its.outputs

        by : (goal : Option Goal) → goal_at now number ≡ goal → (one : Option Decided) → decided_goal now number ≡ one
            → option_and_then (λ (it : Goal). option_map (updating_result now it) one) goal ≡ Some entry → Form entry
        by None stands one decided h = absurd (let e : None ≡ Some entry = h in cc)
        by (Some goal) stands None decided h = absurd (let e : None ≡ Some entry = h in cc)
        by (Some goal) stands (Some one) decided h =
            subst (λ (it : Entry). Form it) (same_Some (updating_result now goal one) entry h)
            (over goal one (goal_form number goal stands) (checked-low history number one orderly decided) (claimed_row now.run one.claim)
            (subst (λ (fixed : Fixed). IfFormed (claimed_row fixed one.claim)) (sym (run_of run history)) (row_form one.claim)))

    with_kind : (kind : PendingKind) (o : Option Entry) (pending : Pending) → ((entry : Entry) → o ≡ Some entry → Form entry)
        → pending_with kind o ≡ Some pending → Form pending.entry
    with_kind kind None pending form h = absurd (let e : None ≡ Some pending = h in cc)
    with_kind kind (Some entry) pending form h = subst (λ (it : Pending). Form it.entry) (same_Some _ pending h) (form entry refl)

    opens_form : (about : Op) (pending : Pending) → pending_for now about ≡ Some pending → Form pending.entry
    opens_form (op.Create (subject.Goal number)) pending h = with_kind Creating (creating_entry now number) pending (creating_form number) h
    opens_form (op.Update (subject.Goal number)) pending h = with_kind Updating (updating_entry now number) pending (updating_form number) h
    opens_form (op.Delete (subject.Row row)) pending h = with_kind Deleting (old_row now row) pending (old_form row) h
    opens_form _ pending h = absurd (let e : None ≡ Some pending = h in cc)

  abbrev Opens : Opened → Type 0
  Opens opened = Form opened.pending.entry

  opened_step : (seat : ℕ) (past : List Event) (what : What) → IsOrderly run past → Each Opens (opened_of run past)
      → Each Opens (cons_option (opened_by (known_of run past) what) (opened_of run past))
  opened_step seat past (Begun ticket lane about) orderly all = by (pending_for (known_of run past) about) refl
    where
      by : (o : Option Pending) → pending_for (known_of run past) about ≡ o
          → Each Opens (cons_option (option_map (opened_with ticket) o) (opened_of run past))
      by None is = all
      by (Some pending) is = (opens_form past orderly about pending is, all)
  opened_step seat past _ orderly all = all

  opened_formed : (history : List Event) → IsOrderly run history → Each Opens (opened_of run history)
  unfolding opened_of
  opened_formed [] orderly = tt
  opened_formed (event ∷ past) orderly = opened_step event.seat past event.what orderly.0 (opened_formed past orderly.0)

  -- ---- the state

  abbrev IsPending : Pending → Type 0
  IsPending pending = Form pending.entry

  module _ (pendings : Each IsPending run.base.pending) (history : List Event) (orderly : IsOrderly run history) where
    abbrev known : Known
    known = known_of run history

    pendings_now : Each IsPending known.run.base.pending
    pendings_now = subst (λ (fixed : Fixed). Each IsPending fixed.base.pending) (sym (run_of run history)) pendings

    base_formed : Each IsPending (base_pending known)
    base_formed =
        each_map (λ (one : ℕ × Pending). one.1) IsPending
        (filter (λ (one : ℕ × Pending). not (is_cleared known one.0)) (enumerate_from 0 known.run.base.pending))
        (each-filter (λ (one : ℕ × Pending). IsPending one.1) (λ (one : ℕ × Pending). not (is_cleared known one.0))
        (enumerate_from 0 known.run.base.pending) (numbered_each IsPending 0 known.run.base.pending pendings_now))

    own_formed : Each IsPending (own_pending run history)
    own_formed =
        each_map (λ (opened : Opened). opened.pending) IsPending
        (filter (λ (opened : Opened). not (was_answered history opened.ticket)) (reverse (opened_of run history)))
        (each-filter Opens (λ (opened : Opened). not (was_answered history opened.ticket)) (reverse (opened_of run history))
        (each_reverse Opens (opened_of run history) (opened_formed history orderly)))

    pending_formed : Each IsPending (pending_of known)
    pending_formed =
        each_append IsPending (base_pending known) (own_pending known.run known.history) base_formed
        (subst (λ (fixed : Fixed). Each IsPending (own_pending fixed known.history)) (sym (run_of run history))
        (subst (λ (events : List Event). Each IsPending (own_pending run events)) (sym (history_of run history)) own_formed))

    -- ---- rows that were read anew

    rows_now : Each Form (rows_of known.run)
    rows_now = subst (λ (fixed : Fixed). Each Form (rows_of fixed)) (sym (run_of run history)) rows

    answers_now : Each Answers known.answers
    answers_now =
        subst (λ (answers : List Closed). Each Answers answers) (sym (answers_as run history))
        (subst (λ (events : List Event). Each Answers (answers_of events)) (sym (history_of run history)) (answers_formed history orderly))

    abbrev IsRead : RowNow → Type 0
    IsRead (row_now.Found entry) = Form entry
    IsRead row_now.Gone = Unit
    IsRead row_now.AsItWas = Unit

    read_form : (entry : Entry) (o : Option Reply) → Form entry → ((said : Reply) → o ≡ Some said → is_formed_reply said ≡ true)
        → IsRead (row_read entry o)
    read_form entry (Some (reply.Found id inputs outputs)) form said =
        refreshed-form entry id inputs outputs form (said (reply.Found id inputs outputs) refl)
    read_form entry (Some reply.Gone) form said = tt
    read_form entry _ form said = tt

    read_formed : Each IsRead (rows_read known)
    read_formed =
        each_map (λ (row : ℕ × Entry). row_read row.1 (reply_to known.answers (op.Read (subject.Row row.0)))) IsRead
        (enumerate_from 0 (rows_of known.run))
        (each_weaker (λ (row : ℕ × Entry). Form row.1)
        (λ (row : ℕ × Entry). IsRead (row_read row.1 (reply_to known.answers (op.Read (subject.Row row.0)))))
        (λ row form. read_form row.1 (reply_to known.answers (op.Read (subject.Row row.0))) form
        (λ said is. reply_among known.answers (op.Read (subject.Row row.0)) said answers_now is))
        (enumerate_from 0 (rows_of known.run)) (numbered_each Form 0 (rows_of known.run) rows_now))

    found_form : (entry row : Entry) (said : Reply) → Form entry → is_formed_reply said ≡ true → found_by entry (Some said) ≡ Some row → Form row
    found_form entry row (reply.Found id inputs outputs) form formed h =
        subst (λ (it : Entry). Form it) (same_Some _ row h) (refreshed-form entry id inputs outputs form formed)
    found_form entry row _ form formed h = absurd (let e : None ≡ Some row = h in cc)

    imports_form : (closed : Closed) → Answers closed → (row : Entry) → imported_by known closed ≡ Some row → Form row
    imports_form closed formed row h = by (pending_read closed.op) h
      where
        at : (place : ℕ) (o : Option Pending) → pending_at known place ≡ o
            → option_and_then (λ (pending : Pending). found_by pending.entry (Some closed.reply)) o ≡ Some row → Form row
        at place None is h = absurd (let e : None ≡ Some row = h in cc)
        at place (Some pending) is h =
            found_form pending.entry row closed.reply (each_at IsPending known.run.base.pending place pending pendings_now is) formed h

        by : (o : Option ℕ)
            → option_and_then (λ (place : ℕ). option_and_then (λ (pending : Pending). found_by pending.entry (Some closed.reply)) (pending_at known place)) o
            ≡ Some row → Form row
        by None h = absurd (let e : None ≡ Some row = h in cc)
        by (Some place) h = at place (pending_at known place) refl h

    imported_formed : Each Form (imported_entries known)
    imported_formed =
        each-mapped (imported_by known) Form (reverse known.answers)
        (each_weaker Answers (λ closed. (row : Entry) → imported_by known closed ≡ Some row → Form row) imports_form (reverse known.answers)
        (each_reverse Answers known.answers answers_now))

    abbrev IsLeft : Left → Type 0
    IsLeft left = Form left.row

    left_form : (place : ℕ) (row : Entry) (one : RowNow) → Form row → IsRead one → Each IsLeft (left_of place row one)
    left_form place row row_now.AsItWas form read = (form, tt)
    left_form place row (row_now.Found entry) form read = (read, tt)
    left_form place row row_now.Gone form read = tt

    left_formed : (place : ℕ) (base : List Entry) (read : List RowNow) → Each Form base → Each IsRead read → Each IsLeft (rows_left place base read)
    left_formed place [] read forms reads = tt
    left_formed place (row ∷ base) [] forms reads = (forms.0, left_formed (suc place) base [] forms.1 tt)
    left_formed place (row ∷ base) (one ∷ read) forms reads =
        each_append IsLeft (left_of place row one) (rows_left (suc place) base read) (left_form place row one forms.0 reads.0)
        (left_formed (suc place) base read forms.1 reads.1)

    pruned_formed : (base earlier : List Entry) (lefts : List Left) → Each Form earlier → Each IsLeft lefts → Each Form (pruned_behind base earlier lefts)
    pruned_formed base earlier [] forms lefts = forms
    pruned_formed base earlier (left ∷ more) forms lefts =
        pruned_formed base (earlier ++ pruned_row base earlier left ∷ []) more
        (each_append Form earlier (pruned_row base earlier left ∷ []) forms (pruned-form base earlier left lefts.0, tt)) lefts.1

    refreshed_formed : Each Form (refreshed_entries known)
    refreshed_formed =
        pruned_formed (rows_of known.run) [] (all_left (rows_of known.run) (rows_read known) (imported_entries known)) tt
        (each_append IsLeft (map (replaced_left (imported_entries known)) (rows_left 0 (rows_of known.run) (rows_read known)))
        (imported_left (rows_of known.run) (imported_entries known))
        (each_map (replaced_left (imported_entries known)) IsLeft (rows_left 0 (rows_of known.run) (rows_read known))
        (each_weaker IsLeft (λ left. IsLeft (replaced_left (imported_entries known) left))
        (λ left form. replaced-form (imported_entries known) left.row form) (rows_left 0 (rows_of known.run) (rows_read known))
        (left_formed 0 (rows_of known.run) (rows_read known) rows_now read_formed)))
        (each_map (λ (entry : Entry). left_at (length (rows_of known.run)) entry) IsLeft (imported_entries known) imported_formed))

    entries_formed : Each Form (entries_now known)
    entries_formed = by (is_refresh known.run.mode)
      where
        by : (b : Bool) → Each Form (if b then refreshed_entries known else new_entries known ++ old_entries known)
        by true = refreshed_formed
        by false = each_append Form (new_entries known) (old_entries known) (new_formed history orderly) (old_formed history orderly)

-- ---- the law

pub states-formed : StatesFormed
states-formed = λ run history start orderly.
    let rows : Each Form (rows_of run) =
    each_weaker Formed Form form-of (rows_of run) (all_each Formed (rows_of run) start.entries) in
    let pendings : Each (λ pending. Form pending.entry) run.base.pending =
    each_weaker (λ pending. Formed pending.entry) (λ pending. Form pending.entry) (λ pending h. form-of pending.entry h) run.base.pending
    (all_each (λ pending. Formed pending.entry) run.base.pending start.pending) in
    record {
      entries = each_all Formed (state_of run history).entries
          (each_weaker Form Formed formed-by (state_of run history).entries (entries_formed run rows pendings history orderly));
      pending = each_all (λ pending. Formed pending.entry) (state_of run history).pending
          (each_weaker (λ pending. Form pending.entry) (λ pending. Formed pending.entry) (λ pending form. formed-by pending.entry form)
          (state_of run history).pending (pending_formed run rows pendings history orderly));
    }
