-- What an orderly history begins and records: goals that are decided, each once, after the goals of their references.
use Rattle.std.proofs.Common.{◌≡◌, ℕ, ◌==◌, ◌≤◌, Bool, true, false, not, ◌&&◌, ◌||◌, if◌then◌else◌, List, [], ◌∷◌, filter, length, Option, Some, None, is_none, refl, sym, ◌∙◌, ap, subst, arith}
use Rattle.std.specs.List.{cons_option, list_any}
use Rattle.std.proofs.lemmas.Option.{same_Some}
use Rattle.pl_lemmas.proofs.Truth.{and_left, and_right, neither_left, neither_right}
use Rattle.pl_lemmas.proofs.Options.{none_is, passing}
use Rattle.pl_lemmas.proofs.Numbers.{equal_numbers}
use Rattle.pl_lemmas.specs.Words.{has_number, some_passes}
use Rattle.pl_state.specs.declared.goal.Goal.{Goal}
use Rattle.pl_events.specs.declared.event.Event.{Event}
use Rattle.pl_events.specs.declared.event.What.{What}
use Rattle.pl_events.specs.declared.event.What.TheVariants.{Begun, Answered, Lost, Kept}
use Rattle.pl_events.specs.declared.operation.Op.{Op}
use Rattle.pl_events.specs.declared.operation.Op.TheVariants as op
use Rattle.pl_events.specs.declared.operation.Subject.{Subject}
use Rattle.pl_events.specs.declared.operation.Subject.TheVariants as subject
use Rattle.pl_events.specs.declared.reply.Reply.{Reply}
use Rattle.pl_decide.specs.Limited.{is_refused}
use Rattle.pl_model.specs.declared.decided.Decided.{Decided}
use Rattle.pl_model.specs.declared.errand.Errand.{Errand}
use Rattle.pl_model.specs.declared.fixed.Fixed.{Fixed}
use Rattle.pl_model.specs.declared.work.Work.TheVariants.{Keep as to_keep, Send as to_send}
use Rattle.pl_model.specs.Run.{is_preview}
use Rattle.pl_model.specs.Tickets.{begun_of, errand_by, is_closed, same_op, was_begun}
use Rattle.pl_model.specs.Recording.{goal_in, goal_of_op, recorded_by, recorded_of}
use Rattle.pl_model.specs.History.{known_of}
use Rattle.pl_model.specs.Known.{Known, decided_goal, goal_at, has_problem, is_recorded}
use Rattle.pl_model.specs.Due.{for_decided, is_asked, is_due, is_due_on, is_lane_of, is_placed, is_read_ready, is_ready_on, is_wanted_op, keeps_goal, on_goal, op_of_goal, passes_limit, provider_stands, references_recorded, sends_goal, urn_is_free, way_is_free}
use Rattle.pl_model.specs.Legal.{IsOrderly, MayHappen}
use Rattle.pl_model_stays.specs.Order.{RecordedAfterReferences}
use Rattle.pl_model_stays.proofs.Operations.Once.{as_before, begun_at_most_once, equal_ops, not_true, one_more, unclosed}
use Rattle.pl_model_stays.proofs.Goals.Staying.{IsPlaced, IsSent, IsThere, answered_errand, errand_sent, not_configure, recorded-as, same_need, sent-stays, sent_begun, there-stays, was_sent}

-- ---- what is due

module _ (known : Known) (number : ℕ) where
  -- what is asked of a goal and of what is decided of it is asked of one that is there
  pub found : (test : Goal → Decided → Bool) → for_decided known number test ≡ true
      → (goal : Goal) × (one : Decided) × (goal_at known number ≡ Some goal) × (decided_goal known number ≡ Some one)
      × (test goal one ≡ true)
  found test h =
      let goal = passing (λ goal. some_passes (test goal) (decided_goal known number)) (goal_at known number) h in
      let one = passing (test goal.0) (decided_goal known number) goal.2 in
      (goal.0, one.0, goal.1, one.1, one.2)

  -- the references of what can be recorded are, and it is not
  pub placed_references : (goal : Goal) (one : Decided) → is_placed known number goal one ≡ true → references_recorded known goal ≡ true
  placed_references goal one h =
      and_right (not (is_refused one.decision) && not (is_recorded known number)) _
      (and_left _ (is_preview known.run.mode || urn_is_free known goal one) h)

  placed_unrecorded : (goal : Goal) (one : Decided) → is_placed known number goal one ≡ true → is_recorded known number ≡ false
  placed_unrecorded goal one h =
      not_true (is_recorded known number) (and_right (not (is_refused one.decision)) _
      (and_left _ (references_recorded known goal) (and_left _ (is_preview known.run.mode || urn_is_free known goal one) h)))

  -- a goal whose keep is due is there, needs no operation and is not recorded
  abbrev IsKept : Type 0
  IsKept = (goal : Goal) × (one : Decided) × IsPlaced known number goal one × (op_of_goal known number goal one ≡ None)
      × (is_recorded known number ≡ false)

  pub due_kept : is_due known (to_keep number) ≡ true → IsKept
  due_kept h =
      let it = found (keeps_goal known number)
      (and_right (not (has_problem known)) _ (and_left _ (not (passes_limit known (to_keep number))) h)) in
      let both : (is_placed known number it.0 it.1 && is_none (op_of_goal known number it.0 it.1)) ≡ true =
      and_left _ (provider_stands known number it.0) it.4 in
      let placed : is_placed known number it.0 it.1 ≡ true = and_left _ (is_none (op_of_goal known number it.0 it.1)) both in (
        it.0,
        it.1,
        record { stands = it.2; decided = it.3; references = placed_references it.0 it.1 placed },
        none_is (op_of_goal known number it.0 it.1) (and_right (is_placed known number it.0 it.1) _ both),
        placed_unrecorded it.0 it.1 placed,
      )

  -- a goal that something is to be sent for is there, needs that operation and is not recorded
  sends : (about : Op) → for_decided known number (sends_goal known number about) ≡ true
      → IsSent known number about × (is_recorded known number ≡ false)
  sends about h =
      let it = found (sends_goal known number about) h in
      let both : (is_placed known number it.0 it.1 && some_passes (same_op about) (op_of_goal known number it.0 it.1)) ≡ true =
      and_left _ (way_is_free known it.1) it.4 in
      let placed : is_placed known number it.0 it.1 ≡ true =
      and_left _ (some_passes (same_op about) (op_of_goal known number it.0 it.1)) both in
      let need = passing (same_op about) (op_of_goal known number it.0 it.1) (and_right (is_placed known number it.0 it.1) _ both) in (
        (
          it.0,
          it.1,
          record { stands = it.2; decided = it.3; references = placed_references it.0 it.1 placed },
          need.1 ∙ ap (λ (x : Op). Some x) (sym (equal_ops about need.0 need.2)),
        ),
        placed_unrecorded it.0 it.1 placed,
      )

  -- what is asked on a goal is asked by what is to be sent for it
  sends_on : (about : Op) (on : Subject) → goal_in on ≡ Some number → on_goal known about on ≡ true
      → for_decided known number (sends_goal known number about) ≡ true
  sends_on about (subject.Goal n) is h =
      subst (λ (k : ℕ). for_decided known k (sends_goal known k about) ≡ true) (same_Some n number is) h
  sends_on about (subject.Row row) is h = absurd (let e : false ≡ true = h in cc)
  sends_on about (subject.Pending at) is h = absurd (let e : false ≡ true = h in cc)

  sends_read : (about : Op) (on : Subject) → goal_in on ≡ Some number → is_read_ready known about on ≡ true
      → for_decided known number (sends_goal known number about) ≡ true
  sends_read about (subject.Goal n) is h =
      subst (λ (k : ℕ). for_decided known k (sends_goal known k about) ≡ true) (same_Some n number is) h
  sends_read about (subject.Row row) is h = absurd (let e : None ≡ Some number = is in cc)
  sends_read about (subject.Pending at) is h = absurd (let e : None ≡ Some number = is in cc)

  -- what is ready on a lane is asked
  pub asked_on : (about : Op) (lane : ℕ) → (not (has_problem known) && is_wanted_op known about && is_lane_of known about lane) ≡ true
      → is_asked known about ≡ true
  asked_on about lane h =
      and_right _ (is_asked known about)
      (and_right (not (has_problem known)) (is_wanted_op known about) (and_left _ (is_lane_of known about lane) h))

  pub ready_sends : (about : Op) (lane : ℕ) → goal_of_op about ≡ Some number → is_ready_on known about lane ≡ true
      → for_decided known number (sends_goal known number about) ≡ true
  ready_sends (op.Create on) lane is h = sends_on (op.Create on) on is (asked_on (op.Create on) lane h)
  ready_sends (op.Update on) lane is h = sends_on (op.Update on) on is (asked_on (op.Update on) lane h)
  ready_sends (op.Read on) lane is h = sends_read (op.Read on) on is (asked_on (op.Read on) lane h)
  ready_sends _ lane is h = absurd (let e : None ≡ Some number = is in cc)

  -- an operation that is due on a goal is the one that the goal needs
  pub due_sent : (about : Op) (lane : ℕ) → goal_of_op about ≡ Some number → is_due_on known about lane ≡ true
      → IsSent known number about × (is_recorded known number ≡ false)
  due_sent about lane is h =
      sends about (ready_sends about lane is (and_left (is_ready_on known about lane) (not (passes_limit known (to_send about))) h))

-- ---- what was begun and what is recorded

-- each operation that was begun on a goal is the one that the goal needs, and each recorded goal is there
record IsHeld (run : Fixed) (history : List Event) : Type 0 where
  pub sent : (about : Op) (number : ℕ) → was_begun history about ≡ true → goal_of_op about ≡ Some number
      → IsSent (known_of run history) number about
  pub placed : (number : ℕ) → has_number (recorded_of history) number ≡ true → IsThere (known_of run history) number

module _ (run : Fixed) (past : List Event) (held : IsHeld run past) where
  abbrev before : Known
  before = known_of run past

  -- what an event records is there
  recording : (seat : ℕ) (what : What) (number : ℕ) → MayHappen before seat what → recorded_by past what ≡ Some number
      → IsThere before number
  recording seat (Kept kept fresh) number may h =
      let due = due_kept before kept may.due in
      subst (λ (n : ℕ). IsThere before n) (same_Some kept number h) (due.0, due.1, due.2)
  recording seat (Answered ticket reply) number may h =
      let found = answered_errand past ticket reply number h in
      let sent = held.sent found.0.op number
      (sent_begun past ticket found.0.op (errand_sent past ticket found.0 found.1)) found.2 in
      (sent.0, sent.1, sent.2)
  recording seat _ number may h = absurd (let e : None ≡ Some number = h in cc)

  -- what an event begins is due
  begun_due : (seat : ℕ) (what : What) (errand : Errand) → MayHappen before seat what → errand_by seat what ≡ Some errand
      → is_due_on before errand.op errand.lane ≡ true
  begun_due seat (Begun ticket lane about) errand may h =
      subst (λ (one : Errand). is_due_on before one.op one.lane ≡ true)
      (same_Some (record { ticket = ticket; seat = seat; lane = lane; op = about }) errand h) may.due
  begun_due seat _ errand may h = absurd (let e : None ≡ Some errand = h in cc)

  module _ (event : Event) (may : MayHappen before event.seat event.what) where
    placed_next : (number : ℕ) → has_number (recorded_of (event ∷ past)) number ≡ true → IsThere (known_of run (event ∷ past)) number
    placed_next number h = by (recorded_by past event.what) refl h
      where
        new : (other : ℕ) → recorded_by past event.what ≡ Some other → (b : Bool) → (other == number) ≡ b
            → (b || has_number (recorded_of past) number) ≡ true → IsThere (known_of run (event ∷ past)) number
        new other is true at h = there-stays run event past number
            (subst (λ (n : ℕ). IsThere before n) (equal_numbers other number at) (recording event.seat event.what other may is))
        new other is false at h = there-stays run event past number (held.placed number h)

        by : (o : Option ℕ) → recorded_by past event.what ≡ o → has_number (cons_option o (recorded_of past)) number ≡ true
            → IsThere (known_of run (event ∷ past)) number
        by None is h = there-stays run event past number (held.placed number h)
        by (Some other) is h = new other is (other == number) refl h

    sent_next : (about : Op) (number : ℕ) → was_begun (event ∷ past) about ≡ true → goal_of_op about ≡ Some number
        → IsSent (known_of run (event ∷ past)) number about
    sent_next about number begun on =
        sent-stays run event past number about held.placed (by (errand_by event.seat event.what) refl begun)
      where
        new : (errand : Errand) → errand_by event.seat event.what ≡ Some errand → (b : Bool) → same_op errand.op about ≡ b
            → (b || was_begun past about) ≡ true → IsSent before number about
        new errand is true at h =
            let same : errand.op ≡ about = equal_ops errand.op about at in
            (due_sent before number about errand.lane on
            (subst (λ (one : Op). is_due_on before one errand.lane ≡ true) same (begun_due event.seat event.what errand may is))).0
        new errand is false at h = held.sent about number h on

        by : (o : Option Errand) → errand_by event.seat event.what ≡ o
            → list_any (λ errand. same_op errand.op about) (cons_option o (begun_of past)) ≡ true → IsSent before number about
        by None is h = held.sent about number h on
        by (Some errand) is h = new errand is (same_op errand.op about) refl h

    held_next : IsHeld run (event ∷ past)
    held_next = record { sent = sent_next; placed = placed_next }

-- so it is in each orderly history
held : (run : Fixed) (history : List Event) → IsOrderly run history → IsHeld run history
held run [] orderly = record {
  sent = λ about number begun on. absurd (let e : false ≡ true = begun in cc);
  placed = λ number h. absurd (let e : false ≡ true = h in cc);
}
held run (event ∷ past) orderly = held_next run past (held run past orderly.0) event orderly.1

module _ (run : Fixed) where
  -- an operation that was begun on a goal is the one that the goal needs, and the goals of its references are recorded
  pub begun-held : (history : List Event) (about : Op) (number : ℕ) → IsOrderly run history
      → was_begun history about ≡ true → goal_of_op about ≡ Some number → IsSent (known_of run history) number about
  begun-held history about number orderly begun on = (held run history orderly).sent about number begun on

  -- a goal that is recorded is there, and the goals of its references are recorded
  pub recorded-held : (history : List Event) (number : ℕ) → IsOrderly run history
      → is_recorded (known_of run history) number ≡ true → IsThere (known_of run history) number
  recorded-held history number orderly h =
      (held run history orderly).placed number (sym (recorded-as run history number) ∙ h)

  -- and so it was before it was recorded
  pub recording-held : (event : Event) (past : List Event) (number : ℕ) → IsOrderly run (event ∷ past)
      → recorded_by past event.what ≡ Some number → IsThere (known_of run past) number
  recording-held event past number orderly h =
      recording run past (held run past orderly.0) event.seat event.what number orderly.1 h

-- ---- each once

-- where a test passes, a weaker one passes once
one_pass : {X : Type 0} (test one : X → Bool) → ((x : X) → one x ≡ true → test x ≡ true)
    → (xs : List X) → list_any one xs ≡ true → 1 ≤ length (filter test xs)
one_pass test one weaker [] h = absurd (let e : false ≡ true = h in cc)
one_pass test one weaker (x ∷ xs) h = by (test x) refl (one x) refl (one_pass test one weaker xs) h
  where
    by : (b : Bool) → test x ≡ b → (c : Bool) → one x ≡ c → (list_any one xs ≡ true → 1 ≤ length (filter test xs))
        → (c || list_any one xs) ≡ true → 1 ≤ length (if b then x ∷ filter test xs else filter test xs)
    by true is c at rest h = omega arith
    by false is true at rest h = absurd (let e : false ≡ true = sym is ∙ weaker x at in cc)
    by false is false at rest h = rest h

-- where two tests pass, but never together, a test that is weaker than both passes twice
pub two_pass : {X : Type 0} (test one other : X → Bool)
    → ((x : X) → one x ≡ true → test x ≡ true) → ((x : X) → other x ≡ true → test x ≡ true)
    → ((x : X) → one x ≡ true → other x ≡ false)
    → (xs : List X) → list_any one xs ≡ true → list_any other xs ≡ true → 2 ≤ length (filter test xs)
two_pass test one other first second apart [] h k = absurd (let e : false ≡ true = h in cc)
two_pass test one other first second apart (x ∷ xs) h k =
    by (test x) refl (one x) refl (other x) refl (two_pass test one other first second apart xs) h k
  where
    by : (b : Bool) → test x ≡ b → (c : Bool) → one x ≡ c → (d : Bool) → other x ≡ d
        → (list_any one xs ≡ true → list_any other xs ≡ true → 2 ≤ length (filter test xs))
        → (c || list_any one xs) ≡ true → (d || list_any other xs) ≡ true
        → 2 ≤ length (if b then x ∷ filter test xs else filter test xs)
    by b is true at true too rest h k = absurd (let e : true ≡ false = sym too ∙ apart x at in cc)
    by true is true at false too rest h k = let more : 1 ≤ length (filter test xs) = one_pass test other second xs k in omega arith
    by true is false at true too rest h k = let more : 1 ≤ length (filter test xs) = one_pass test one first xs h in omega arith
    by true is false at false too rest h k = let more : 2 ≤ length (filter test xs) = rest h k in omega arith
    by false is true at false too rest h k = absurd (let e : false ≡ true = sym is ∙ first x at in cc)
    by false is false at true too rest h k = absurd (let e : false ≡ true = sym is ∙ second x too in cc)
    by false is false at false too rest h k = rest h k

-- what is begun under a ticket is not begun under another
tickets_apart : (one other : ℕ) (about : Op) → (one == other) ≡ false → (errand : Errand)
    → ((errand.ticket == one) && same_op errand.op about) ≡ true → ((errand.ticket == other) && same_op errand.op about) ≡ false
tickets_apart one other about apart errand h =
    let at : errand.ticket ≡ one = equal_numbers errand.ticket one (and_left _ (same_op errand.op about) h) in
    let off : (errand.ticket == other) ≡ false = subst (λ (n : ℕ). (n == other) ≡ false) (sym at) apart in
    rw off refl

module _ (run : Fixed) where
  -- an operation on a goal was begun under one ticket
  pub one_ticket : (history : List Event) (one other : ℕ) (about : Op) (number : ℕ) → IsOrderly run history
      → goal_of_op about ≡ Some number → was_sent history one about ≡ true → was_sent history other about ≡ true → (one == other) ≡ true
  one_ticket history one other about number orderly on first second = by (one == other) refl
    where
      by : (b : Bool) → (one == other) ≡ b → (one == other) ≡ true
      by true is = is
      by false is =
          let once : length (filter (λ errand. same_op errand.op about) (begun_of history)) ≤ 1 =
          begun_at_most_once run about (not_configure about number on) history orderly in
          let twice : 2 ≤ length (filter (λ errand. same_op errand.op about) (begun_of history)) =
          two_pass (λ errand. same_op errand.op about)
          (λ errand. (errand.ticket == one) && same_op errand.op about) (λ errand. (errand.ticket == other) && same_op errand.op about)
          (λ errand both. and_right (errand.ticket == one) _ both) (λ errand both. and_right (errand.ticket == other) _ both)
          (tickets_apart one other about is) (begun_of history) first second in
          absurd (omega arith)

  -- two operations that were begun on one goal are the same
  pub one_op : (history : List Event) (one other : Op) (number : ℕ) → IsOrderly run history
      → was_begun history one ≡ true → was_begun history other ≡ true
      → goal_of_op one ≡ Some number → goal_of_op other ≡ Some number → one ≡ other
  one_op history one other number orderly first second on too =
      let a = begun-held run history one number orderly first on in
      let b = begun-held run history other number orderly second too in
      same_Some one other (sym a.3 ∙ same_need (known_of run history) number a.0 b.0 a.1 b.1 a.2 b.2 ∙ b.3)

  module _ (seat : ℕ) (past : List Event) (orderly : IsOrderly run past) (ticket : ℕ) (about : Op) (number : ℕ)
      (on : goal_of_op about ≡ Some number)
      (rest : was_sent past ticket about ≡ true → is_closed past ticket ≡ false → has_number (recorded_of past) number ≡ false) where
    abbrev at_past : Known
    at_past = known_of run past

    -- a goal that an operation was begun on is not kept
    not_kept : (kept : ℕ) → is_due at_past (to_keep kept) ≡ true → (kept == number) ≡ true → was_sent past ticket about ≡ true → ⊥
    not_kept kept due at sent =
        let it = due_kept at_past number (subst (λ (n : ℕ). is_due at_past (to_keep n) ≡ true) (equal_numbers kept number at) due) in
        let begun = begun-held run past about number orderly (sent_begun past ticket about sent) on in
        let e : None ≡ Some about = sym it.3 ∙ same_need at_past number it.0 begun.0 it.1 begun.1 it.2 begun.2 ∙ begun.3 in
        cc

    -- nor does the answer to another ticket record it
    not_answered : (other : ℕ) (reply : Reply) (again : ℕ) → recorded_by past (Answered other reply) ≡ Some again
        → (again == number) ≡ true → (other == ticket) ≡ false → was_sent past ticket about ≡ true → ⊥
    not_answered other reply again is at apart sent =
        let found = answered_errand past other reply again is in
        let too : goal_of_op found.0.op ≡ Some number = found.2 ∙ ap (λ (n : ℕ). Some n) (equal_numbers again number at) in
        let went : was_sent past other found.0.op ≡ true = errand_sent past other found.0 found.1 in
        let same : found.0.op ≡ about = one_op past found.0.op about number orderly
        (sent_begun past other found.0.op went) (sent_begun past ticket about sent) too on in
        let e : false ≡ true = sym apart ∙ one_ticket past other ticket about number orderly on
        (subst (λ (one : Op). was_sent past other one ≡ true) same went) sent in
        cc

    -- an event after which the ticket is open records another goal or none
    unrecorded_next : (what : What) → MayHappen at_past seat what
        → was_sent (record { seat = seat; what = what } ∷ past) ticket about ≡ true
        → is_closed (record { seat = seat; what = what } ∷ past) ticket ≡ false
        → has_number (recorded_of (record { seat = seat; what = what } ∷ past)) number ≡ false
    unrecorded_next (Begun own lane one) may sent closed = by ((own == ticket) && same_op one about) refl sent
      where
        by : (b : Bool) → ((own == ticket) && same_op one about) ≡ b → (b || was_sent past ticket about) ≡ true
            → has_number (recorded_of past) number ≡ false
        by true is h =
            let same : one ≡ about = equal_ops one about (and_right (own == ticket) _ is) in
            sym (recorded-as run past number)
            ∙ (due_sent at_past number about lane on (subst (λ (x : Op). is_due_on at_past x lane ≡ true) same may.due)).1
        by false is h = rest h closed
    unrecorded_next (Answered own reply) may sent closed = by (recorded_by past (Answered own reply)) refl
      where
        before : has_number (recorded_of past) number ≡ false
        before = rest sent (neither_right (own == ticket) (is_closed past ticket) closed)

        new : (again : ℕ) → recorded_by past (Answered own reply) ≡ Some again → (b : Bool) → (again == number) ≡ b
            → (b || has_number (recorded_of past) number) ≡ false
        new again is true at =
            absurd (not_answered own reply again is at (neither_left (own == ticket) (is_closed past ticket) closed) sent)
        new again is false at = before

        by : (o : Option ℕ) → recorded_by past (Answered own reply) ≡ o → has_number (cons_option o (recorded_of past)) number ≡ false
        by None is = before
        by (Some again) is = new again is (again == number) refl
    unrecorded_next (Lost own why) may sent closed = rest sent (neither_right (own == ticket) (is_closed past ticket) closed)
    unrecorded_next (Kept kept fresh) may sent closed = by (kept == number) refl
      where
        by : (b : Bool) → (kept == number) ≡ b → (b || has_number (recorded_of past) number) ≡ false
        by true at = absurd (not_kept kept may.due at sent)
        by false at = rest sent closed
    unrecorded_next _ may sent closed = rest sent closed

  unrecorded_open : (history : List Event) (ticket : ℕ) (about : Op) (number : ℕ) → IsOrderly run history
      → was_sent history ticket about ≡ true → goal_of_op about ≡ Some number → is_closed history ticket ≡ false
      → has_number (recorded_of history) number ≡ false
  unrecorded_open [] ticket about number orderly sent on closed = refl
  unrecorded_open (event ∷ past) ticket about number orderly sent on closed =
      unrecorded_next event.seat past orderly.0 ticket about number on
      (λ was still. unrecorded_open past ticket about number orderly.0 was on still) event.what orderly.1 sent closed

  -- what an event records was not recorded
  pub recording-new : (seat : ℕ) (past : List Event) (what : What) (number : ℕ) → IsOrderly run past
      → MayHappen (known_of run past) seat what → recorded_by past what ≡ Some number
      → has_number (recorded_of past) number ≡ false
  recording-new seat past (Kept kept fresh) number orderly may h =
      subst (λ (n : ℕ). has_number (recorded_of past) n ≡ false) (same_Some kept number h)
      (sym (recorded-as run past kept) ∙ (due_kept (known_of run past) kept may.due).4)
  recording-new seat past (Answered ticket reply) number orderly may h =
      let found = answered_errand past ticket reply number h in
      unrecorded_open past ticket found.0.op number orderly (errand_sent past ticket found.0 found.1) found.2
      (unclosed run seat ticket past may.closes)
  recording-new seat past _ number orderly may h = absurd (let e : None ≡ Some number = h in cc)

  -- no goal is recorded twice
  pub recorded_at_most_once : (history : List Event) (number : ℕ) → IsOrderly run history
      → length (filter (λ other. other == number) (recorded_of history)) ≤ 1
  recorded_at_most_once [] number orderly = omega arith
  recorded_at_most_once (event ∷ past) number orderly =
      by (recorded_by past event.what) refl (recorded_at_most_once past number orderly.0)
    where
      new : (other : ℕ) → recorded_by past event.what ≡ Some other → (b : Bool) → (other == number) ≡ b
          → length (filter (λ one. one == number) (recorded_of past)) ≤ 1
          → length (filter (λ one. one == number) (other ∷ recorded_of past)) ≤ 1
      new other is true at few = one_more (λ one. one == number) other (recorded_of past)
          (subst (λ (n : ℕ). has_number (recorded_of past) n ≡ false) (equal_numbers other number at)
          (recording-new event.seat past event.what other orderly.0 orderly.1 is))
      new other is false at few = as_before (λ one. one == number) other (recorded_of past) at few

      by : (o : Option ℕ) → recorded_by past event.what ≡ o → length (filter (λ one. one == number) (recorded_of past)) ≤ 1
          → length (filter (λ one. one == number) (cons_option o (recorded_of past))) ≤ 1
      by None is few = few
      by (Some other) is few = new other is (other == number) refl few

-- a goal is recorded after the goals of its references
pub recorded-after-references : RecordedAfterReferences
recorded-after-references = λ run event past number goal orderly records stands.
    let there = recording-held run event past number orderly records in
    subst (λ (it : Goal). references_recorded (known_of run past) it ≡ true)
    (same_Some there.0 goal (sym there.2.stands ∙ stands)) there.2.references
