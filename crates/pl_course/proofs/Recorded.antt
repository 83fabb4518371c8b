-- What recorded a goal is the reply to its operation, or else its keep.
use Rattle.std.proofs.Common.{◌≡◌, ℕ, ◌==◌, Bool, true, false, ◌&&◌, ◌||◌, List, [], ◌∷◌, Option, Some, None, is_some, option_and_then, option_map, refl, sym, ◌∙◌, ap, subst}
use Rattle.std.specs.List.{cons_option, list_any}
use Rattle.std.specs.Option.{option_or}
use Rattle.pl_lemmas.specs.Words.{has_number, none_or, only_if}
use Rattle.pl_lemmas.proofs.Numbers.{equal_numbers, same_number}
use Rattle.pl_lemmas.proofs.Options.{or_none}
use Rattle.pl_lemmas.proofs.Truth.{neither_left, neither_right}
use Rattle.pl_events.specs.declared.event.Event.{Event}
use Rattle.pl_events.specs.declared.event.What.{What}
use Rattle.pl_events.specs.declared.event.What.TheVariants.{Answered, Kept}
use Rattle.pl_events.specs.declared.operation.Op.{Op}
use Rattle.pl_events.specs.declared.operation.Op.TheVariants as op
use Rattle.pl_events.specs.declared.operation.Subject.TheVariants as subject
use Rattle.pl_events.specs.declared.reply.Reply.{Reply}
use Rattle.pl_model.specs.declared.decided.Decided.{Decided}
use Rattle.pl_model.specs.declared.errand.Closed.{Closed}
use Rattle.pl_model.specs.declared.errand.Errand.{Errand}
use Rattle.pl_model.specs.declared.fixed.Fixed.{Fixed}
use Rattle.pl_model.specs.Claims.{claimed_row, kept_provider_id}
use Rattle.pl_model.specs.Due.{references_recorded}
use Rattle.pl_model.specs.Entries.{Result, goal_entry, numbers_in, recording_of, result_answered, result_from, result_of_keep, result_of_reply}
use Rattle.pl_model.specs.History.{known_of}
use Rattle.pl_model.specs.Known.{Known, claim_row, goal_at, is_decided, is_recorded}
use Rattle.pl_model.specs.Legal.{IsOrderly, MayHappen}
use Rattle.pl_model.specs.Recording.{fresh_by, fresh_of, goal_of_op, is_thing, recorded_by, recorded_by_reply, recorded_of}
use Rattle.pl_model.specs.Step.{Summary, known_in, plain_history, summary_of}
use Rattle.pl_model.specs.Tickets.{answers_of, begun_of, closed_by, closes, errand_at, errand_of, is_closed, op_at, reply_if, reply_to, same_op}
use Rattle.pl_reference.specs.declared.reference.ProviderRef.{ProviderRef}
use Rattle.pl_state.specs.declared.entry.Entry.{Entry}
use Rattle.pl_state.specs.declared.goal.Goal.{Goal}
use Rattle.pl_model_stays.proofs.Goals.Recorded.{one_ticket, recorded-held, recording-new}
use Rattle.pl_model_stays.proofs.Goals.Standing.{answers_as, closed_with, unrecorded-gives}
use Rattle.pl_model_stays.proofs.Goals.Staying.{errand_sent, provider_recorded, was_sent}
use Rattle.pl_model_stays.proofs.Lists.Growing.{run_of}
use Rattle.pl_model_stays.proofs.Operations.Once.{equal_ops, history_of, unclosed}
use Rattle.pl_model_step.specs.Reads.{PlainReadsSame}
use Rattle.pl_course.specs.Kept.{kept_of}
use Rattle.pl_course.specs.Recorded.{recording_reply, result_told, thing_in, thing_of}

-- ---- replies come to closed tickets

or_true : (b : Bool) → (b || true) ≡ true
or_true true = refl
or_true false = refl

-- what was sent under a ticket that is closed
abbrev WasClosed : List Event → Op → Type 0
WasClosed history about = (ticket : ℕ) × (was_sent history ticket about ≡ true) × (is_closed history ticket ≡ true)

closed_more : (event : Event) (past : List Event) (about : Op) → WasClosed past about → WasClosed (event ∷ past) about
closed_more event past about (ticket, sent, closed) = (
  ticket,
  by (errand_of event),
  ap (λ (b : Bool). closes ticket event.what || b) closed ∙ or_true (closes ticket event.what),
)
  where
    by : (o : Option Errand)
        → list_any (λ errand. (errand.ticket == ticket) && same_op errand.op about) (cons_option o (begun_of past)) ≡ true
    by None = sent
    by (Some errand) =
        ap (λ (b : Bool). ((errand.ticket == ticket) && same_op errand.op about) || b) sent
        ∙ or_true ((errand.ticket == ticket) && same_op errand.op about)

-- an answer closes the ticket of its operation
answer_closed : (seat : ℕ) (past : List Event) (what : What) (closed : Closed) → closed_by past what ≡ Some closed
    → WasClosed (record { seat = seat; what = what } ∷ past) closed.op
answer_closed seat past (Answered ticket said) closed h = by (errand_at past ticket) refl h
  where
    by : (o : Option Errand) → errand_at past ticket ≡ o
        → option_map (closed_with said) (option_map (λ (errand : Errand). errand.op) o) ≡ Some closed
        → WasClosed (record { seat = seat; what = Answered ticket said } ∷ past) closed.op
    by None is h = absurd (let e : None ≡ Some closed = h in cc)
    by (Some errand) is h =
        let same : closed_with said errand.op ≡ closed = cc in (
          ticket,
          subst (λ (one : Closed). was_sent past ticket one.op ≡ true) same (errand_sent past ticket errand is),
          ap (λ (b : Bool). b || is_closed past ticket) (same_number ticket),
        )
answer_closed seat past _ closed h = absurd (let e : None ≡ Some closed = h in cc)

-- an operation with a reply was sent under a ticket that is closed
replied_closed : (history : List Event) (about : Op) (reply : Reply) → reply_to (answers_of history) about ≡ Some reply
    → WasClosed history about
replied_closed [] about reply h = absurd (let e : None ≡ Some reply = h in cc)
replied_closed (event ∷ past) about reply h =
    by (closed_by past event.what) refl (λ said before. closed_more event past about (replied_closed past about said before)) h
  where
    new : (closed : Closed) → closed_by past event.what ≡ Some closed
        → ((said : Reply) → reply_to (answers_of past) about ≡ Some said → WasClosed (event ∷ past) about)
        → (o : Option Reply) → reply_to (answers_of past) about ≡ o → (b : Bool) → same_op closed.op about ≡ b
        → option_or o (reply_if b closed.reply) ≡ Some reply → WasClosed (event ∷ past) about
    new closed is rest (Some said) first b same h = rest said first
    new closed is rest None first true same h =
        subst (λ (one : Op). WasClosed (event ∷ past) one) (equal_ops closed.op about same)
        (answer_closed event.seat past event.what closed is)
    new closed is rest None first false same h = absurd (let e : None ≡ Some reply = h in cc)

    by : (o : Option Closed) → closed_by past event.what ≡ o
        → ((said : Reply) → reply_to (answers_of past) about ≡ Some said → WasClosed (event ∷ past) about)
        → reply_to (cons_option o (answers_of past)) about ≡ Some reply → WasClosed (event ∷ past) about
    by None is rest h = rest reply h
    by (Some closed) is rest h = new closed is rest (reply_to (answers_of past) about) refl (same_op closed.op about) refl h

-- no reply came yet to an operation on a goal whose ticket is not closed
unanswered : (run : Fixed) (past : List Event) (ticket : ℕ) (about : Op) (number : ℕ) → IsOrderly run past
    → goal_of_op about ≡ Some number → was_sent past ticket about ≡ true → is_closed past ticket ≡ false
    → reply_to (answers_of past) about ≡ None
unanswered run past ticket about number orderly on sent closed = by (reply_to (answers_of past) about) refl
  where
    by : (o : Option Reply) → reply_to (answers_of past) about ≡ o → o ≡ None
    by None is = refl
    by (Some said) is =
        let was = replied_closed past about said is in
        let same : was.0 ≡ ticket =
        equal_numbers was.0 ticket (one_ticket run past was.0 ticket about number orderly on was.1 sent) in
        absurd (let e : true ≡ false = sym was.2 ∙ ap (is_closed past) same ∙ closed in cc)

-- ---- a reply more

-- the replies with one more
abbrev more_of : Op → Reply → List Closed → List Closed
more_of about said answers = closed_with said about ∷ answers

module _ (answers : List Closed) (about : Op) (said : Reply) where
  -- a reply to another operation leaves what came to this one
  other_thing : (own : Op) → same_op about own ≡ false → thing_of (more_of about said answers) own ≡ thing_of answers own
  other_thing own apart =
      ap (λ (b : Bool). option_and_then thing_in (option_or (reply_to answers own) (reply_if b said))) apart
      ∙ ap (option_and_then thing_in) (or_none (reply_to answers own))

  -- the first reply to an operation
  new_thing : (own : Op) → same_op about own ≡ true → is_thing said ≡ true → reply_to answers own ≡ None
      → thing_of (more_of about said answers) own ≡ Some said
  new_thing own same thing none =
      (λ i. option_and_then thing_in (option_or (none i) (reply_if (same i) said)))
      ∙ ap (λ (b : Bool). only_if b (Some said)) thing

  -- a reply that records nothing of the goal leaves what came to an operation on it
  same_thing : (number : ℕ) (own : Op) → goal_of_op own ≡ Some number
      → has_number (numbers_in (recorded_by_reply (closed_with said about))) number ≡ false
      → thing_of (more_of about said answers) own ≡ thing_of answers own
  same_thing number own on another = by (same_op about own) refl (is_thing said) refl
    where
      by : (b : Bool) → same_op about own ≡ b → (thing : Bool) → is_thing said ≡ thing
          → thing_of (more_of about said answers) own ≡ thing_of answers own
      by false apart thing is = other_thing own apart
      by true same true is =
          let on_it : goal_of_op about ≡ Some number = ap goal_of_op (equal_ops about own same) ∙ on in
          absurd (let e : true ≡ false =
          sym (ap (λ (b : Bool). b || false) (same_number number))
          ∙ sym (λ i. has_number (numbers_in (only_if (is i) (on_it i))) number) ∙ another in cc)
      by true same false is =
          ap (λ (b : Bool). option_and_then thing_in (option_or (reply_to answers own) (reply_if b said))) same
          ∙ none_more (reply_to answers own)
        where
          none_more : (o : Option Reply) → option_and_then thing_in (option_or o (Some said)) ≡ option_and_then thing_in o
          none_more None = ap (λ (b : Bool). only_if b (Some said)) is
          none_more (Some first) = refl

  same_recording : (number : ℕ) → has_number (numbers_in (recorded_by_reply (closed_with said about))) number ≡ false
      → recording_reply (more_of about said answers) number ≡ recording_reply answers number
  same_recording number another = λ i.
      option_or (same_thing number (op.Create (subject.Goal number)) refl another i)
      (option_or (same_thing number (op.Update (subject.Goal number)) refl another i)
      (same_thing number (op.Read (subject.Goal number)) refl another i))

-- the first reply to an operation on a goal that says that its thing is there recorded it
new_recording : (answers : List Closed) (about : Op) (said : Reply) (number : ℕ) → goal_of_op about ≡ Some number
    → is_thing said ≡ true → reply_to answers about ≡ None
    → thing_of answers (op.Create (subject.Goal number)) ≡ None → thing_of answers (op.Update (subject.Goal number)) ≡ None
    → thing_of answers (op.Read (subject.Goal number)) ≡ None
    → recording_reply (more_of about said answers) number ≡ Some said
new_recording answers (op.Create (subject.Goal k)) said number on thing none first second third =
    let same : (k == number) ≡ true = let e : k ≡ number = cc in ap (λ (n : ℕ). n == number) e ∙ same_number number in
    let own : op.Create (subject.Goal k) ≡ op.Create (subject.Goal number) = cc in
    (λ i. option_or
    (new_thing answers (op.Create (subject.Goal k)) said (op.Create (subject.Goal number)) same thing
    (sym (ap (reply_to answers) own) ∙ none) i)
    (option_or (thing_of (more_of (op.Create (subject.Goal k)) said answers) (op.Update (subject.Goal number)))
    (thing_of (more_of (op.Create (subject.Goal k)) said answers) (op.Read (subject.Goal number)))))
new_recording answers (op.Update (subject.Goal k)) said number on thing none first second third =
    let same : (k == number) ≡ true = let e : k ≡ number = cc in ap (λ (n : ℕ). n == number) e ∙ same_number number in
    let own : op.Update (subject.Goal k) ≡ op.Update (subject.Goal number) = cc in
    (λ i. option_or
    ((other_thing answers (op.Update (subject.Goal k)) said (op.Create (subject.Goal number)) refl ∙ first) i)
    (option_or
    (new_thing answers (op.Update (subject.Goal k)) said (op.Update (subject.Goal number)) same thing
    (sym (ap (reply_to answers) own) ∙ none) i)
    (thing_of (more_of (op.Update (subject.Goal k)) said answers) (op.Read (subject.Goal number)))))
new_recording answers (op.Read (subject.Goal k)) said number on thing none first second third =
    let same : (k == number) ≡ true = let e : k ≡ number = cc in ap (λ (n : ℕ). n == number) e ∙ same_number number in
    let own : op.Read (subject.Goal k) ≡ op.Read (subject.Goal number) = cc in
    (λ i. option_or
    ((other_thing answers (op.Read (subject.Goal k)) said (op.Create (subject.Goal number)) refl ∙ first) i)
    (option_or
    ((other_thing answers (op.Read (subject.Goal k)) said (op.Update (subject.Goal number)) refl ∙ second) i)
    (new_thing answers (op.Read (subject.Goal k)) said (op.Read (subject.Goal number)) same thing
    (sym (ap (reply_to answers) own) ∙ none) i)))
new_recording answers _ said number on thing none first second third = absurd (let e : None ≡ Some number = on in cc)

-- ---- a goal that is not recorded

has_more : (o : Option ℕ) (numbers : List ℕ) (number : ℕ)
    → has_number (cons_option o numbers) number ≡ (has_number (numbers_in o) number || has_number numbers number)
has_more None numbers number = refl
has_more (Some other) numbers number = by (other == number)
  where
    by : (b : Bool) → (b || has_number numbers number) ≡ ((b || false) || has_number numbers number)
    by true = refl
    by false = refl

-- no operation on it has a reply by which its thing is there
no_thing : (history : List Event) (number : ℕ) (own : Op) → goal_of_op own ≡ Some number
    → has_number (recorded_of history) number ≡ false → thing_of (answers_of history) own ≡ None
no_thing [] number own on h = refl
no_thing (event ∷ past) number own on h = by event.what (no_thing past number own on) h
  where
    answered : (said : Reply) (o : Option Op)
        → (has_number (recorded_of past) number ≡ false → thing_of (answers_of past) own ≡ None)
        → has_number (cons_option (option_and_then recorded_by_reply (option_map (closed_with said) o)) (recorded_of past)) number ≡ false
        → thing_of (cons_option (option_map (closed_with said) o) (answers_of past)) own ≡ None
    answered said None rest h = rest h
    answered said (Some about) rest h =
        let parts = sym (has_more (recorded_by_reply (closed_with said about)) (recorded_of past) number) ∙ h in
        same_thing (answers_of past) about said number own on
        (neither_left (has_number (numbers_in (recorded_by_reply (closed_with said about))) number) (has_number (recorded_of past) number) parts)
        ∙ rest
        (neither_right (has_number (numbers_in (recorded_by_reply (closed_with said about))) number) (has_number (recorded_of past) number) parts)

    by : (what : What) → (has_number (recorded_of past) number ≡ false → thing_of (answers_of past) own ≡ None)
        → has_number (cons_option (recorded_by past what) (recorded_of past)) number ≡ false
        → thing_of (cons_option (closed_by past what) (answers_of past)) own ≡ None
    by (Answered ticket said) rest h = answered said (op_at past ticket) rest h
    by (Kept kept fresh) rest h = rest (neither_right (kept == number) (has_number (recorded_of past) number) h)
    by _ rest h = rest h

no_recording : (history : List Event) (number : ℕ) → has_number (recorded_of history) number ≡ false
    → recording_reply (answers_of history) number ≡ None
no_recording history number h = λ i.
    option_or (no_thing history number (op.Create (subject.Goal number)) refl h i)
    (option_or (no_thing history number (op.Update (subject.Goal number)) refl h i)
    (no_thing history number (op.Read (subject.Goal number)) refl h i))

-- no keep gave it a number
no_fresh : (history : List Event) (number : ℕ) → has_number (recorded_of history) number ≡ false → fresh_of history number ≡ None
no_fresh [] number h = refl
no_fresh (event ∷ past) number h = by event.what (no_fresh past number) h
  where
    by : (what : What) → (has_number (recorded_of past) number ≡ false → fresh_of past number ≡ None)
        → has_number (cons_option (recorded_by past what) (recorded_of past)) number ≡ false
        → option_or (fresh_of past number) (fresh_by number what) ≡ None
    by (Kept kept fresh) rest h = λ i.
        option_or (rest (neither_right (kept == number) (has_number (recorded_of past) number) h) i)
        (only_if (neither_left (kept == number) (has_number (recorded_of past) number) h i) fresh)
    by (Answered ticket said) rest h =
        let parts = sym (has_more (recorded_by past (Answered ticket said)) (recorded_of past) number) ∙ h in
        or_none (fresh_of past number)
        ∙ rest
        (neither_right (has_number (numbers_in (recorded_by past (Answered ticket said))) number) (has_number (recorded_of past) number) parts)
    by _ rest h = or_none (fresh_of past number) ∙ rest h

-- ---- what recorded a goal

module _ (run : Fixed) (known : Known) (number : ℕ) (goal : Goal) (one : Decided) where
  abbrev claim : Option Entry
  claim = claimed_row known.run one.claim

  abbrev given_in : List Event → Option Result
  given_in history = result_from known number goal one history

  abbrev told_in : List Event → Option Result
  told_in history =
      result_told claim goal one (recording_reply (answers_of history) number) (has_number (recorded_of history) number) (fresh_of history number)

  module _ (past : List Event) (orderly : IsOrderly run past) (before : given_in past ≡ told_in past) where
    abbrev recorded : Bool
    recorded = has_number (recorded_of past) number

    abbrev replied : Option Reply
    replied = recording_reply (answers_of past) number

    -- ---- keeps

    abbrev kept_result : Option ℕ → Result
    kept_result fresh = result_of_keep goal claim one fresh

    kept_step : (seat kept : ℕ) (fresh : Option ℕ) → MayHappen (known_of run past) seat (Kept kept fresh)
        → given_in (record { seat = seat; what = Kept kept fresh } ∷ past) ≡ told_in (record { seat = seat; what = Kept kept fresh } ∷ past)
    kept_step seat kept fresh may = by (kept == number) refl
      where
        by : (b : Bool) → (kept == number) ≡ b
            → given_in (record { seat = seat; what = Kept kept fresh } ∷ past) ≡ told_in (record { seat = seat; what = Kept kept fresh } ∷ past)
        by true is =
            let new : recorded ≡ false =
            subst (λ (n : ℕ). has_number (recorded_of past) n ≡ false) (equal_numbers kept number is)
            (recording-new run seat past (Kept kept fresh) kept orderly may refl) in
            let given : given_in (record { seat = seat; what = Kept kept fresh } ∷ past) ≡ Some (kept_result fresh) =
            (λ i. option_or (unrecorded-gives known number goal one past new i) (option_or (only_if (is i) (Some (kept_result fresh))) None)) in
            let told : told_in (record { seat = seat; what = Kept kept fresh } ∷ past) ≡ Some (kept_result fresh) =
            (λ i. result_told claim goal one (no_recording past number new i) (is i || recorded)
            (option_or (no_fresh past number new i) (only_if (is i) fresh))) in
            given ∙ sym told
        by false is =
            ap (λ (b : Bool). option_or (given_in past) (option_or (only_if b (Some (kept_result fresh))) None)) is
            ∙ or_none (given_in past) ∙ before
            ∙ ap (λ (o : Option ℕ). result_told claim goal one replied recorded o) (sym (or_none (fresh_of past number)))
            ∙ sym (ap (λ (b : Bool). result_told claim goal one replied (b || recorded) (option_or (fresh_of past number) (only_if b fresh))) is)

    -- ---- answers

    -- what is told, with a reply that this operation has
    abbrev told_with : Op → Reply → Option Result
    told_with about said =
        result_told claim goal one (recording_reply (more_of about said (answers_of past)) number)
        (has_number (cons_option (recorded_by_reply (closed_with said about)) (recorded_of past)) number)
        (option_or (fresh_of past number) None)

    abbrev given_with : Op → Reply → Option Result
    given_with about said = option_or (given_in past) (result_answered known number one (closed_with said about))

    -- a reply that does not record the goal
    other_step : (about : Op) (said : Reply) → has_number (numbers_in (recorded_by_reply (closed_with said about))) number ≡ false
        → given_with about said ≡ told_with about said
    other_step about said another =
        ap (λ (b : Bool). option_or (given_in past) (only_if b (result_of_reply claim said))) another
        ∙ or_none (given_in past) ∙ before
        ∙ sym (λ i. result_told claim goal one (same_recording (answers_of past) about said number another i)
        ((has_more (recorded_by_reply (closed_with said about)) (recorded_of past) number ∙ ap (λ (b : Bool). b || recorded) another) i)
        (or_none (fresh_of past number) i))

    -- one that does
    own_step : (about : Op) (said : Reply) → recorded ≡ false → goal_of_op about ≡ Some number → is_thing said ≡ true
        → reply_to (answers_of past) about ≡ None → given_with about said ≡ told_with about said
    own_step about said new on thing none =
        let given : given_with about said ≡ result_of_reply claim said =
        (λ i. option_or (unrecorded-gives known number goal one past new i)
        (only_if (has_number (numbers_in (only_if (thing i) (on i))) number) (result_of_reply claim said)))
        ∙ ap (λ (b : Bool). only_if (b || false) (result_of_reply claim said)) (same_number number) in
        let told : told_with about said ≡ result_of_reply claim said =
        ap (λ (o : Option Reply). result_told claim goal one o
        (has_number (cons_option (recorded_by_reply (closed_with said about)) (recorded_of past)) number) (option_or (fresh_of past number) None))
        (new_recording (answers_of past) about said number on thing none
        (no_thing past number (op.Create (subject.Goal number)) refl new)
        (no_thing past number (op.Update (subject.Goal number)) refl new)
        (no_thing past number (op.Read (subject.Goal number)) refl new)) in
        given ∙ sym told

    -- an answer to what was begun under a ticket, if anything was
    abbrev given_at : Reply → Option Op → Option Result
    given_at said o = option_or (given_in past) (option_or None (option_and_then (result_answered known number one) (option_map (closed_with said) o)))

    abbrev told_at : Reply → Option Op → Option Result
    told_at said o =
        result_told claim goal one (recording_reply (cons_option (option_map (closed_with said) o) (answers_of past)) number)
        (has_number (cons_option (option_and_then recorded_by_reply (option_map (closed_with said) o)) (recorded_of past)) number)
        (option_or (fresh_of past number) None)

    answered_step : (seat ticket : ℕ) (said : Reply) → MayHappen (known_of run past) seat (Answered ticket said)
        → given_in (record { seat = seat; what = Answered ticket said } ∷ past) ≡ told_in (record { seat = seat; what = Answered ticket said } ∷ past)
    answered_step seat ticket said may = by (errand_at past ticket) refl
      where
        records : (errand : Errand) → errand_at past ticket ≡ Some errand
            → (thing : Bool) → is_thing said ≡ thing → (o : Option ℕ) → goal_of_op errand.op ≡ o
            → has_number (numbers_in (only_if thing o)) number ≡ true → given_with errand.op said ≡ told_with errand.op said
        records errand is false thing o on h = absurd (let e : false ≡ true = h in cc)
        records errand is true thing None on h = absurd (let e : false ≡ true = h in cc)
        records errand is true thing (Some k) on h =
            let same : k ≡ number = equal_numbers k number (sym (or_false (k == number)) ∙ h) in
            let on_it : goal_of_op errand.op ≡ Some number = on ∙ ap (λ (n : ℕ). Some n) same in
            let recorded_it : recorded_by past (Answered ticket said) ≡ Some number =
            (λ i. option_and_then recorded_by_reply (option_map (closed_with said) (option_map (λ (it : Errand). it.op) (is i))))
            ∙ (λ i. only_if (thing i) (on_it i)) in
            own_step errand.op said (recording-new run seat past (Answered ticket said) number orderly may recorded_it) on_it thing
            (unanswered run past ticket errand.op number orderly on_it (errand_sent past ticket errand is)
            (unclosed run seat ticket past may.closes))
          where
            or_false : (b : Bool) → (b || false) ≡ b
            or_false true = refl
            or_false false = refl

        at : (errand : Errand) → errand_at past ticket ≡ Some errand
            → (b : Bool) → has_number (numbers_in (recorded_by_reply (closed_with said errand.op))) number ≡ b
            → given_with errand.op said ≡ told_with errand.op said
        at errand is true h = records errand is (is_thing said) refl (goal_of_op errand.op) refl h
        at errand is false h = other_step errand.op said h

        by : (o : Option Errand) → errand_at past ticket ≡ o
            → given_at said (option_map (λ (it : Errand). it.op) o) ≡ told_at said (option_map (λ (it : Errand). it.op) o)
        by None is = or_none (given_in past) ∙ before
            ∙ ap (λ (o : Option ℕ). result_told claim goal one replied recorded o) (sym (or_none (fresh_of past number)))
        by (Some errand) is = at errand is (has_number (numbers_in (recorded_by_reply (closed_with said errand.op))) number) refl

    -- ---- events

    step : (seat : ℕ) (what : What) → MayHappen (known_of run past) seat what
        → given_in (record { seat = seat; what = what } ∷ past) ≡ told_in (record { seat = seat; what = what } ∷ past)
    step seat (Kept kept fresh) may = kept_step seat kept fresh may
    step seat (Answered ticket said) may = answered_step seat ticket said may
    step seat _ may =
        or_none (given_in past) ∙ before
        ∙ ap (λ (o : Option ℕ). result_told claim goal one replied recorded o) (sym (or_none (fresh_of past number)))

  given_told : (history : List Event) → IsOrderly run history → given_in history ≡ told_in history
  given_told [] orderly = refl
  given_told (event ∷ past) orderly = step past orderly.0 (given_told past orderly.0) event.seat event.what orderly.1

-- in an orderly history
pub recording_told : (run : Fixed) (history : List Event) (number : ℕ) (goal : Goal) (one : Decided) → IsOrderly run history
    → recording_of (known_of run history) number goal one
    ≡ result_told (claimed_row (known_of run history).run one.claim) goal one (recording_reply (known_of run history).answers number)
    (is_recorded (known_of run history) number) (fresh_of (known_of run history).history number)
recording_told run history number goal one orderly =
    let known : Known = known_of run history in
    let same : known.history ≡ history = history_of run history in
    let replies : known.answers ≡ answers_of history = answers_as run history ∙ ap answers_of same in
    ap (λ (events : List Event). result_from known number goal one events) same
    ∙ given_told run known number goal one history orderly
    ∙ sym (λ i. result_told (claimed_row known.run one.claim) goal one (recording_reply (replies i) number)
    (has_number (recorded_of (same i)) number) (fresh_of (same i) number))

-- the provider of a goal that is recorded is decided
pub provider_decided : (run : Fixed) (history : List Event) (number : ℕ) → IsOrderly run history
    → is_recorded (known_of run history) number ≡ true
    → none_or (λ goal. none_or (is_decided (known_of run history)) goal.provider) (goal_at (known_of run history) number) ≡ true
provider_decided run history number orderly recorded =
    let there = recorded-held run history number orderly recorded in
    ap (λ (o : Option Goal). none_or (λ goal. none_or (is_decided (known_of run history)) goal.provider) o) there.2.stands
    ∙ by there.0 there.2.references there.0.provider refl
  where
    by : (goal : Goal) → references_recorded (known_of run history) goal ≡ true → (provider : Option ℕ) → goal.provider ≡ provider
        → none_or (is_decided (known_of run history)) provider ≡ true
    by goal references None is = refl
    by goal references (Some provider) is =
        let own = recorded-held run history provider orderly (provider_recorded (known_of run history) goal provider references is) in
        ap (λ (o : Option Decided). is_some o) own.2.decided

-- ---- entries, made of what is kept of a history

-- the reference to a provider, with the numbers that ids are made of
abbrev reference_by : Known → (ℕ → Option ℕ) → ℕ → Option ProviderRef
reference_by known fresh provider =
    option_and_then (λ goal. option_map (λ id. record { urn = goal.urn; id = id }) (kept_provider_id (claim_row known provider) (fresh provider)))
    (goal_at known provider)

abbrev entry_by : Known → (ℕ → Option ℕ) → Goal → Decided → Result → Entry
entry_by known fresh goal one result =
    record (goal_entry known goal one result) { provider = option_and_then (reference_by known fresh) goal.provider }

-- what is known of a history, but for its events, requests and problems
abbrev known_but : Fixed → Summary → Known
known_but run kept = record {
  run = run;
  history = [];
  answers = kept.answers;
  goals = kept.goals;
  decided = kept.decided;
  asked = [];
  problems = [];
}

module _ (reads : PlainReadsSame) (run : Fixed) (history : List Event) (kept : Summary) (told : kept ≡ kept_of (summary_of run history)) where
  pub fresh_alike : fresh_of (plain_history kept) ≡ fresh_of (known_of run history).history
  fresh_alike =
      ap (λ (one : Summary). fresh_of (plain_history one)) told
      ∙ sym (reads run history).fresh ∙ ap fresh_of (sym (history_of run history))

  pub entry_alike : goal_entry (known_in run kept) ≡ goal_entry (known_of run history)
  entry_alike = λ i goal one result.
      entry_by (known_but (sym (run_of run history) i) (told i)) (fresh_alike i) goal one result
