-- The count that is limited, in parts, and how an event changes each.
use Rattle.std.proofs.Common.{◌≡◌, ℕ, ◌+◌, ◌≤◌, ◌<◌, Bool, true, false, not, ◌&&◌, ◌||◌, inl, inr, List, [], ◌∷◌, filter, length, map, reverse, Option, Some, None, refl, sym, ◌∙◌, ap, subst, arith, option_map, option_and_then}
use Rattle.std.proofs.lemmas.List.{length-append}
use Rattle.std.proofs.lemmas.List.Elements.{filter-append}
use Rattle.std.specs.List.{cons_option, enumerate_from, range_with_len}
use Rattle.std.proofs.lemmas.Option.{same_Some}
use Rattle.pl_lemmas.proofs.Truth.{and_right}
use Rattle.pl_lemmas.proofs.Options.{some_there}
use Rattle.pl_lemmas.proofs.Each.{IsAmong}
use Rattle.pl_lemmas.proofs.Numbers.{number_more}
use Rattle.pl_state.specs.declared.entry.Entry.{Entry}
use Rattle.pl_state.specs.declared.pending.Pending.{Pending}
use Rattle.pl_state.specs.declared.pending.PendingKind.{PendingKind}
use Rattle.pl_state.specs.declared.pending.PendingKind.TheVariants.{Creating, Updating, Deleting}
use Rattle.pl_events.specs.declared.event.Event.{Event}
use Rattle.pl_events.specs.declared.event.What.{What}
use Rattle.pl_events.specs.declared.event.What.TheVariants.{Begun, Answered}
use Rattle.pl_events.specs.declared.operation.Op.{Op}
use Rattle.pl_events.specs.declared.operation.Op.TheVariants as op
use Rattle.pl_events.specs.declared.operation.Subject.{Subject}
use Rattle.pl_events.specs.declared.operation.Subject.TheVariants as subject
use Rattle.pl_events.specs.declared.reply.Reply.{Reply}
use Rattle.pl_model.specs.declared.errand.Closed.{Closed}
use Rattle.pl_model.specs.declared.errand.Errand.{Errand}
use Rattle.pl_model.specs.declared.errand.Opened.{Opened}
use Rattle.pl_model.specs.declared.fixed.Fixed.{Fixed}
use Rattle.pl_model.specs.Run.{rows_of}
use Rattle.pl_model.specs.Due.{added_by_op, count_of, is_counted, is_due_on, reads_goal}
use Rattle.pl_model.specs.History.{known_of}
use Rattle.pl_model.specs.Known.{Known}
use Rattle.pl_model.specs.Legal.{IsOrderly, MayHappen}
use Rattle.pl_model.specs.Entries.{old_row}
use Rattle.pl_lemmas.specs.Words.{has_number}
use Rattle.pl_model.specs.Recording.{cleared_by, cleared_of, goal_in, row_in}
use Rattle.pl_model.specs.Rows.{is_left}
use Rattle.pl_model.specs.State.{base_pending, creating_entry, entries_now, is_answered, is_cleared, is_found, opened_by, opened_of, own_pending, pending_for, pending_of, pending_with, updating_entry, was_answered}
use Rattle.pl_model.specs.Tickets.{answers_of, begun_of, closed_by, closes, is_closed, open_errands, reply_to}
use Rattle.pl_model_stays.proofs.Lists.Counting.{no_more}
use Rattle.pl_model_stays.proofs.Lists.Growing.{answers_by, run_of}
use Rattle.pl_model_stays.proofs.Work.KeptDue.{due-opens}
use Rattle.pl_model_stays.proofs.Operations.Once.{history_of}
use Rattle.pl_model_stays.proofs.Goals.Standing.{answers_as}
use Rattle.pl_model_stays.proofs.Goals.Staying.{any_more, or_more}
use Rattle.pl_model_stays.proofs.Work.Waiting.{left_low}
use Rattle.pl_model_laws.proofs.Rows.TakenOut.{left-before}
use Rattle.pl_model_ends.proofs.Fulfilling.{event_of, opened_with}
use Rattle.pl_model_ends.proofs.Tally.{kept_both, kept_mapped, kept_turned, one_kept, one_less}
use Rattle.pl_model_ends.proofs.Numbers.{in_range}

-- ---- the parts

-- the rows that are left
unfoldable pub left_many : Fixed → List Event → ℕ
left_many run history = length (filter (is_left (known_of run history)) (range_with_len 0 (length (rows_of run))))

abbrev pub is_base_counted : Fixed → List Event → ℕ × Pending → Bool
is_base_counted run history one = not (is_cleared (known_of run history) one.0) && is_counted one.1

-- the pending operations of the start that count
unfoldable pub base_many : Fixed → List Event → ℕ
base_many run history = length (filter (is_base_counted run history) (enumerate_from 0 run.base.pending))

abbrev pub is_own_counted : List Event → Opened → Bool
is_own_counted history opened = not (was_answered history opened.ticket) && is_counted opened.pending

-- the run's own that count
unfoldable pub own_many : Fixed → List Event → ℕ
own_many run history = length (filter (is_own_counted history) (opened_of run history))

abbrev pub is_open_counted : List Event → Errand → Bool
is_open_counted history errand = not (is_closed history errand.ticket) && reads_goal errand.op

-- the open imports and reads of goals
unfoldable pub open_many : List Event → ℕ
open_many history = length (filter (is_open_counted history) (begun_of history))

module _ (run : Fixed) (history : List Event) where
  abbrev known : Known
  known = known_of run history

  base_as : length (filter is_counted (base_pending known)) ≡ base_many run history
  unfolding base_many
  base_as =
      ap (λ (fixed : Fixed). length (filter is_counted (map (λ (one : ℕ × Pending). one.1)
      (filter (λ (one : ℕ × Pending). not (is_cleared known one.0)) (enumerate_from 0 fixed.base.pending))))) (run_of run history)
      ∙ kept_mapped is_counted (λ (one : ℕ × Pending). one.1)
      (filter (λ (one : ℕ × Pending). not (is_cleared known one.0)) (enumerate_from 0 run.base.pending))
      ∙ kept_both (λ (one : ℕ × Pending). is_counted one.1) (λ (one : ℕ × Pending). not (is_cleared known one.0))
      (enumerate_from 0 run.base.pending)

  own_as : length (filter is_counted (own_pending known.run known.history)) ≡ own_many run history
  unfolding own_many
  own_as =
      ap (λ (fixed : Fixed). length (filter is_counted (own_pending fixed known.history))) (run_of run history)
      ∙ ap (λ (events : List Event). length (filter is_counted (own_pending run events))) (history_of run history)
      ∙ kept_mapped is_counted (λ (opened : Opened). opened.pending)
      (filter (λ (opened : Opened). not (was_answered history opened.ticket)) (reverse (opened_of run history)))
      ∙ kept_both (λ (opened : Opened). is_counted opened.pending) (λ (opened : Opened). not (was_answered history opened.ticket))
      (reverse (opened_of run history))
      ∙ kept_turned (is_own_counted history) (opened_of run history)

  pending_as : length (filter is_counted (pending_of known)) ≡ base_many run history + own_many run history
  pending_as =
      ap (λ (all : List Pending). length all) (filter-append is_counted (base_pending known) (own_pending known.run known.history))
      ∙ length-append (filter is_counted (base_pending known)) (filter is_counted (own_pending known.run known.history))
      ∙ ap (λ (n : ℕ). n + length (filter is_counted (own_pending known.run known.history))) base_as
      ∙ ap (λ (n : ℕ). base_many run history + n) own_as

  open_as : length (filter (λ errand. reads_goal errand.op) (open_errands known.history)) ≡ open_many history
  unfolding open_many
  open_as =
      ap (λ (events : List Event). length (filter (λ errand. reads_goal errand.op) (open_errands events))) (history_of run history)
      ∙ kept_both (λ (errand : Errand). reads_goal errand.op) (λ (errand : Errand). not (is_closed history errand.ticket)) (begun_of history)

  -- the count is that of the entries and of these
  pub count_as : count_of known ≡ length (entries_now known) + (base_many run history + own_many run history) + open_many history
  count_as =
      ap (λ (n : ℕ). length (entries_now known) + n + length (filter (λ errand. reads_goal errand.op) (open_errands known.history))) pending_as
      ∙ ap (λ (n : ℕ). length (entries_now known) + (base_many run history + own_many run history) + n) open_as

-- one with its number
abbrev pub paired : {X : Type 0} → ℕ → X → ℕ × X
paired n x = (n, x)

-- ---- tests that become weaker

still_unclosed : (a b c : Bool) → (not (a || b) && c) ≡ true → (not b && c) ≡ true
still_unclosed true b c h = absurd (let e : false ≡ true = h in cc)
still_unclosed false b c h = h

still_uncleared : (a b c : Bool) → (a ≡ true → b ≡ true) → (not b && c) ≡ true → (not a && c) ≡ true
still_uncleared true b c stays h = absurd (let e : (not true && c) ≡ true = subst (λ (it : Bool). (not it && c) ≡ true) (stays refl) h in let f : false ≡ true = e in cc)
still_uncleared false true c stays h = absurd (let e : false ≡ true = h in cc)
still_uncleared false false c stays h = h

-- ---- open imports and reads

-- how many of a kind an operation is
abbrev pub reads_one : Op → ℕ
reads_one (op.Read (subject.Goal number)) = 1
reads_one _ = 0

abbrev pub opens_one : Op → ℕ
opens_one (op.Create about) = 1
opens_one _ = 0

pub added_parts : (about : Op) → added_by_op about ≡ opens_one about + reads_one about
added_parts (op.Create about) = refl
added_parts (op.Read (subject.Goal number)) = refl
added_parts _ = refl

reads_is_one : (about : Op) → reads_goal about ≡ true → 1 ≤ reads_one about
reads_is_one (op.Read (subject.Goal number)) h = omega arith
reads_is_one _ h = absurd (let e : false ≡ true = h in cc)

-- a begin adds one if it reads a goal's thing
pub open_begun : (seat : ℕ) (past : List Event) (ticket lane : ℕ) (about : Op)
    → open_many (event_of seat (Begun ticket lane about) ∷ past) ≤ open_many past + reads_one about
unfolding open_many
open_begun seat past ticket lane about =
    one_kept (not (is_closed past ticket) && reads_goal about) (record { ticket = ticket; seat = seat; lane = lane; op = about })
    (filter (is_open_counted past) (begun_of past)) (reads_one about)
    (λ both. reads_is_one about (and_right (not (is_closed past ticket)) (reads_goal about) both))

-- what else happens adds none
pub open_else : (seat : ℕ) (past : List Event) (what : What) → begun_of (event_of seat what ∷ past) ≡ begun_of past
    → open_many (event_of seat what ∷ past) ≤ open_many past
unfolding open_many
open_else seat past what same =
    subst (λ (errands : List Errand). length (filter (is_open_counted (event_of seat what ∷ past)) errands) ≤ open_many past) (sym same)
    (no_more (is_open_counted past) (is_open_counted (event_of seat what ∷ past))
    (λ errand h. still_unclosed (closes errand.ticket what) (is_closed past errand.ticket) (reads_goal errand.op) h) (begun_of past))

-- the answer to a read of a goal's thing leaves one less
pub open_closed : (seat : ℕ) (past : List Event) (what : What) (errand : Errand) → begun_of (event_of seat what ∷ past) ≡ begun_of past
    → IsAmong errand (begun_of past) → is_closed past errand.ticket ≡ false → closes errand.ticket what ≡ true → reads_goal errand.op ≡ true
    → open_many (event_of seat what ∷ past) + 1 ≤ open_many past
unfolding open_many
open_closed seat past what errand same there unclosed shut reads =
    subst (λ (errands : List Errand). length (filter (is_open_counted (event_of seat what ∷ past)) errands) + 1 ≤ open_many past) (sym same)
    (one_less (is_open_counted past) (is_open_counted (event_of seat what ∷ past))
    (λ one h. still_unclosed (closes one.ticket what) (is_closed past one.ticket) (reads_goal one.op) h) (begun_of past) errand there
    (ap (λ (b : Bool). not b && reads_goal errand.op) unclosed ∙ reads)
    (ap (λ (b : Bool). not (b || is_closed past errand.ticket) && reads_goal errand.op) shut))

-- ---- the run's own pending operations

-- what does not count when it is opened
uncounted : (kind : PendingKind) (o : Option Entry) (pending : Pending) → ((entry : Entry) → is_counted (record { kind = kind; entry = entry }) ≡ false)
    → pending_with kind o ≡ Some pending → is_counted pending ≡ false
uncounted kind None pending none is = absurd (let e : None ≡ Some pending = is in cc)
uncounted kind (Some entry) pending none is = ap is_counted (sym (same_Some _ pending is)) ∙ none entry

-- what a creation opens counts, and nothing else that is opened does
counted_one : (known : Known) (about : Op) (pending : Pending) → pending_for known about ≡ Some pending → is_counted pending ≡ true
    → 1 ≤ opens_one about
counted_one known (op.Create on) pending is counted = omega arith
counted_one known (op.Update on) pending is counted =
    absurd (let e : true ≡ false = sym counted ∙ uncounted Updating (option_and_then (updating_entry known) (goal_in on)) pending (λ entry. refl) is in cc)
counted_one known (op.Delete on) pending is counted =
    absurd (let e : true ≡ false = sym counted ∙ uncounted Deleting (option_and_then (old_row known) (row_in on)) pending (λ entry. refl) is in cc)
counted_one known _ pending is counted = absurd (let e : None ≡ Some pending = is in cc)

answered_closes : (ticket : ℕ) (what : What) → is_answered ticket what ≡ true → closes ticket what ≡ true
answered_closes ticket (Answered closed reply) h = h
answered_closes ticket _ h = absurd (let e : false ≡ true = h in cc)

-- what was answered is closed
pub answered_closed : (history : List Event) (ticket : ℕ) → was_answered history ticket ≡ true → is_closed history ticket ≡ true
answered_closed history ticket h =
    any_more (λ (event : Event). is_answered ticket event.what) (λ (event : Event). closes ticket event.what)
    (λ event is. answered_closes ticket event.what is) history h

module _ (run : Fixed) where
  -- what was opened with an event more
  opened_more : (seat : ℕ) (past : List Event) (what : What)
      → opened_of run (event_of seat what ∷ past) ≡ cons_option (opened_by (known_of run past) what) (opened_of run past)
  unfolding opened_of
  opened_more seat past what = refl

  own_weaker : (seat : ℕ) (past : List Event) (what : What) (opened : Opened) → is_own_counted (event_of seat what ∷ past) opened ≡ true
      → is_own_counted past opened ≡ true
  own_weaker seat past what opened h =
      still_unclosed (is_answered opened.ticket what) (was_answered past opened.ticket) (is_counted opened.pending) h

  -- a begin adds one if it makes a thing
  pub own_begun : (seat : ℕ) (past : List Event) (ticket lane : ℕ) (about : Op)
      → own_many run (event_of seat (Begun ticket lane about) ∷ past) ≤ own_many run past + opens_one about
  unfolding own_many
  own_begun seat past ticket lane about =
      subst (λ (all : List Opened). length (filter (is_own_counted past) all) ≤ own_many run past + opens_one about)
      (sym (opened_more seat past (Begun ticket lane about))) (by (pending_for (known_of run past) about) refl)
    where
      by : (o : Option Pending) → pending_for (known_of run past) about ≡ o
          → length (filter (is_own_counted past) (cons_option (option_map (opened_with ticket) o) (opened_of run past)))
          ≤ own_many run past + opens_one about
      by None is = omega arith
      by (Some pending) is =
          one_kept (is_own_counted past (opened_with ticket pending)) (opened_with ticket pending)
          (filter (is_own_counted past) (opened_of run past)) (opens_one about)
          (λ both. counted_one (known_of run past) about pending is (and_right (not (was_answered past ticket)) (is_counted pending) both))

  -- what else happens adds none
  pub own_else : (seat : ℕ) (past : List Event) (what : What) → opened_by (known_of run past) what ≡ None
      → own_many run (event_of seat what ∷ past) ≤ own_many run past
  unfolding own_many
  own_else seat past what none =
      subst (λ (all : List Opened). length (filter (is_own_counted (event_of seat what ∷ past)) all) ≤ own_many run past)
      (sym (opened_more seat past what ∙ ap (λ (o : Option Opened). cons_option o (opened_of run past)) none))
      (no_more (is_own_counted past) (is_own_counted (event_of seat what ∷ past)) (own_weaker seat past what) (opened_of run past))

  -- the answer to what made a thing leaves one less
  pub own_closed : (seat : ℕ) (past : List Event) (what : What) (opened : Opened) → opened_by (known_of run past) what ≡ None
      → IsAmong opened (opened_of run past) → was_answered past opened.ticket ≡ false → is_answered opened.ticket what ≡ true
      → is_counted opened.pending ≡ true
      → own_many run (event_of seat what ∷ past) + 1 ≤ own_many run past
  unfolding own_many
  own_closed seat past what opened none there unheard shut counted =
      subst (λ (all : List Opened). length (filter (is_own_counted (event_of seat what ∷ past)) all) + 1 ≤ own_many run past)
      (sym (opened_more seat past what ∙ ap (λ (o : Option Opened). cons_option o (opened_of run past)) none))
      (one_less (is_own_counted past) (is_own_counted (event_of seat what ∷ past)) (own_weaker seat past what) (opened_of run past) opened there
      (ap (λ (b : Bool). not b && is_counted opened.pending) unheard ∙ counted)
      (ap (λ (b : Bool). not (b || was_answered past opened.ticket) && is_counted opened.pending) shut))

  -- ---- each creation that was begun was opened

  -- what a creation opened
  abbrev pub IsOpened : List Event → Errand → Type 0
  IsOpened history errand =
      (opened : Opened) × IsAmong opened (opened_of run history) × (opened.ticket ≡ errand.ticket) × (is_counted opened.pending ≡ true)

  opened_after : (seat : ℕ) (past : List Event) (what : What) (errand : Errand) → IsOpened past errand → IsOpened (event_of seat what ∷ past) errand
  opened_after seat past what errand it = (
    it.0,
    subst (λ (all : List Opened). IsAmong it.0 all) (sym (opened_more seat past what)) (by (opened_by (known_of run past) what)),
    it.2,
    it.3,
  )
    where
      by : (o : Option Opened) → IsAmong it.0 (cons_option o (opened_of run past))
      by None = it.1
      by (Some other) = inr it.1

  -- what is opened by a creation counts
  counts_creating : (o : Option Entry) (pending : Pending) → pending_with Creating o ≡ Some pending → is_counted pending ≡ true
  counts_creating None pending is = absurd (let e : None ≡ Some pending = is in cc)
  counts_creating (Some entry) pending is = ap is_counted (sym (same_Some _ pending is))

  opened_now : (seat : ℕ) (past : List Event) (ticket lane : ℕ) (on : Subject) (errand : Errand)
      → IsOrderly run past → is_due_on (known_of run past) (op.Create on) lane ≡ true → errand.ticket ≡ ticket
      → IsOpened (event_of seat (Begun ticket lane (op.Create on)) ∷ past) errand
  opened_now seat past ticket lane on errand orderly due same =
      let pending = some_there (pending_for (known_of run past) (op.Create on)) (due-opens run past (op.Create on) lane orderly due refl) in (
        opened_with ticket pending.0,
        subst (λ (all : List Opened). IsAmong (opened_with ticket pending.0) all) (sym (opened_more seat past (Begun ticket lane (op.Create on))))
            (subst (λ (o : Option Pending). IsAmong (opened_with ticket pending.0) (cons_option (option_map (opened_with ticket) o) (opened_of run past)))
            (sym pending.1) (inl refl)),
        sym same,
        counts_creating (option_and_then (creating_entry (known_of run past)) (goal_in on)) pending.0 pending.1,
      )

  opened_step : (seat : ℕ) (past : List Event) (what : What) (errand : Errand) (on : Subject) → IsOrderly run past
      → MayHappen (known_of run past) seat what → errand.op ≡ op.Create on
      → (IsAmong errand (begun_of past) → IsOpened past errand)
      → IsAmong errand (begun_of (event_of seat what ∷ past)) → IsOpened (event_of seat what ∷ past) errand
  opened_step seat past (Begun ticket lane about) errand on orderly may does rest (inl same) =
      let makes : about ≡ op.Create on = ap (λ (one : Errand). one.op) (sym same) ∙ does in
      subst (λ (it : Op). IsOpened (event_of seat (Begun ticket lane it) ∷ past) errand) (sym makes)
      (opened_now seat past ticket lane on errand orderly
      (subst (λ (it : Op). is_due_on (known_of run past) it lane ≡ true) makes may.due) (ap (λ (one : Errand). one.ticket) same))
  opened_step seat past (Begun ticket lane about) errand on orderly may does rest (inr there) =
      opened_after seat past (Begun ticket lane about) errand (rest there)
  opened_step seat past what errand on orderly may does rest there = opened_after seat past what errand (rest there)

  pub creation-opened : (history : List Event) (errand : Errand) (on : Subject) → IsOrderly run history → errand.op ≡ op.Create on
      → IsAmong errand (begun_of history) → IsOpened history errand
  creation-opened [] errand on orderly does there = absurd there
  creation-opened (event ∷ past) errand on orderly does there =
      opened_step event.seat past event.what errand on orderly.0 orderly.1 does (creation-opened past errand on orderly.0 does) there

  -- ---- the rows that are left, and the pending operations of the start

  -- no row comes back
  pub left_else : (event : Event) (past : List Event) → IsOrderly run (event ∷ past) → left_many run (event ∷ past) ≤ left_many run past
  unfolding left_many
  left_else event past orderly =
      no_more (is_left (known_of run past)) (is_left (known_of run (event ∷ past))) (left-before run event past orderly)
      (range_with_len 0 (length (rows_of run)))

  -- a row that goes leaves one less
  pub left_gone : (event : Event) (past : List Event) (row : ℕ) → IsOrderly run (event ∷ past) → is_left (known_of run past) row ≡ true
      → is_left (known_of run (event ∷ past)) row ≡ false → left_many run (event ∷ past) + 1 ≤ left_many run past
  unfolding left_many
  left_gone event past row orderly left gone =
      one_less (is_left (known_of run past)) (is_left (known_of run (event ∷ past))) (left-before run event past orderly)
      (range_with_len 0 (length (rows_of run))) row
      (let low : row < length (rows_of run) = left_low run past row left in in_range 0 (length (rows_of run)) row (omega arith) (omega arith))
      left gone

  pub cleared-as : (history : List Event) (at : ℕ) → is_cleared (known_of run history) at
      ≡ (has_number (cleared_of history) at || is_found (reply_to (answers_of history) (op.Read (subject.Pending at))))
  cleared-as history at =
      ap (λ (closed : List Closed). has_number (cleared_of (known_of run history).history) at || is_found (reply_to closed (op.Read (subject.Pending at))))
      (answers_as run history)
      ∙ ap (λ (events : List Event). has_number (cleared_of events) at || is_found (reply_to (answers_of events) (op.Read (subject.Pending at))))
      (history_of run history)

  found_stays : (earlier : List Closed) (o : Option Closed) (about : Op) → is_found (reply_to earlier about) ≡ true
      → is_found (reply_to (cons_option o earlier) about) ≡ true
  found_stays earlier o about h = by (reply_to earlier about) refl h
    where
      by : (said : Option Reply) → reply_to earlier about ≡ said → is_found said ≡ true → is_found (reply_to (cons_option o earlier) about) ≡ true
      by None is found = absurd (let e : false ≡ true = found in cc)
      by (Some said) is found = ap is_found (answers_by o earlier about said is) ∙ found

  -- what was cleared or imported stays so
  pub cleared-stays : (event : Event) (past : List Event) (at : ℕ) → is_cleared (known_of run past) at ≡ true
      → is_cleared (known_of run (event ∷ past)) at ≡ true
  cleared-stays event past at h =
      cleared-as (event ∷ past) at
      ∙ or_more (has_number (cleared_of past) at) (is_found (reply_to (answers_of past) (op.Read (subject.Pending at))))
      (has_number (cleared_of (event ∷ past)) at) (is_found (reply_to (answers_of (event ∷ past)) (op.Read (subject.Pending at))))
      (λ was. number_more (cleared_by event) (cleared_of past) at was)
      (λ was. found_stays (answers_of past) (closed_by past event.what) (op.Read (subject.Pending at)) was)
      (sym (cleared-as past at) ∙ h)

  base_weaker : (event : Event) (past : List Event) (one : ℕ × Pending) → is_base_counted run (event ∷ past) one ≡ true
      → is_base_counted run past one ≡ true
  base_weaker event past one h =
      still_uncleared (is_cleared (known_of run past) one.0) (is_cleared (known_of run (event ∷ past)) one.0) (is_counted one.1)
      (cleared-stays event past one.0) h

  pub base_else : (event : Event) (past : List Event) → base_many run (event ∷ past) ≤ base_many run past
  unfolding base_many
  base_else event past =
      no_more (is_base_counted run past) (is_base_counted run (event ∷ past)) (base_weaker event past) (enumerate_from 0 run.base.pending)

  -- what is imported is pending no longer
  pub base_closed : (event : Event) (past : List Event) (at : ℕ) (pending : Pending) → IsAmong (paired at pending) (enumerate_from 0 run.base.pending)
      → is_counted pending ≡ true → is_cleared (known_of run past) at ≡ false → is_cleared (known_of run (event ∷ past)) at ≡ true
      → base_many run (event ∷ past) + 1 ≤ base_many run past
  unfolding base_many
  base_closed event past at pending there counted was now =
      one_less (is_base_counted run past) (is_base_counted run (event ∷ past)) (base_weaker event past) (enumerate_from 0 run.base.pending)
      (paired at pending) there (ap (λ (b : Bool). not b && is_counted pending) was ∙ counted) (ap (λ (b : Bool). not b && is_counted pending) now)
