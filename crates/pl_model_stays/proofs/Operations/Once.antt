-- What an orderly history does once.
use Rattle.std.proofs.Common.{◌≡◌, ℕ, ◌==◌, ◌≤◌, Bool, true, false, not, ◌&&◌, ◌||◌, if◌then◌else◌, List, [], ◌∷◌, filter, length, refl, ◌∙◌, ap, subst, arith, sym}
use Rattle.std.specs.List.{list_any}
use Rattle.pl_lemmas.proofs.Truth.{and_left, and_right}
use Rattle.pl_lemmas.proofs.Numbers.{equal_numbers}
use Rattle.pl_events.specs.declared.event.Event.{Event}
use Rattle.pl_events.specs.declared.event.What.{What}
use Rattle.pl_events.specs.declared.event.What.TheVariants.{Begun, Answered, Lost}
use Rattle.pl_events.specs.declared.operation.Op.{Op}
use Rattle.pl_events.specs.declared.operation.Op.TheVariants as op
use Rattle.pl_events.specs.declared.operation.Source.{Source}
use Rattle.pl_events.specs.declared.operation.Source.TheVariants as source
use Rattle.pl_events.specs.declared.operation.Subject.{Subject}
use Rattle.pl_events.specs.declared.operation.Subject.TheVariants as subject
use Rattle.pl_model.specs.declared.errand.Errand.{Errand}
use Rattle.pl_model.specs.declared.fixed.Fixed.{Fixed}
use Rattle.pl_model.specs.declared.work.Work.TheVariants.{Send as to_send}
use Rattle.pl_model.specs.Due.{is_due_on, is_lane_of, is_next_lane, is_ready_on, is_wanted_op, is_asked, passes_limit}
use Rattle.pl_model.specs.History.{known_of}
use Rattle.pl_model.specs.Known.{Known, has_problem}
use Rattle.pl_model.specs.Legal.{IsOrderly, MayHappen, is_seats}
use Rattle.pl_model.specs.Tickets.{begun_of, closes, is_closed, is_open, same_op, same_source, same_subject, was_begun}
use Rattle.pl_model_stays.specs.Laws.{is_configure}

pub not_true : (a : Bool) → not a ≡ true → a ≡ false
not_true true h = absurd (let e : false ≡ true = h in cc)
not_true false h = refl

-- what passes two tests
pub both : (a b : Bool) → a ≡ true → b ≡ true → (a && b) ≡ true
both true b h k = k
both false b h k = absurd (let e : false ≡ true = h in cc)

pub never_both : (b : Bool) → b ≡ true → b ≡ false → ⊥
never_both b h k = let e : true ≡ false = sym h ∙ k in cc

-- a row that is left is one of the rows, was not taken out and was not taken over
pub left_parts : (below gone taken : Bool) → (below && not gone && not taken) ≡ true
    → (below ≡ true) × (gone ≡ false) × (taken ≡ false)
left_parts true false false h = (refl, refl, refl)
left_parts true false true h = absurd (let e : false ≡ true = h in cc)
left_parts true true taken h = absurd (let e : false ≡ true = h in cc)
left_parts false gone taken h = absurd (let e : false ≡ true = h in cc)

-- ---- counts

-- nothing that passes is left by a filter
pub none_pass : {X : Type 0} (test : X → Bool) (xs : List X) → list_any test xs ≡ false → length (filter test xs) ≡ 0
none_pass test [] h = refl
none_pass test (x ∷ xs) h = by (test x) refl (none_pass test xs) h
  where
    by : (b : Bool) → test x ≡ b → (list_any test xs ≡ false → length (filter test xs) ≡ 0)
        → (b || list_any test xs) ≡ false → length (filter test (x ∷ xs)) ≡ 0
    by true is rest h = absurd (let e : true ≡ false = h in cc)
    by false is rest h = rw is (rest h)

-- one more that passes, where none did before
pub one_more : {X : Type 0} (test : X → Bool) (x : X) (xs : List X) → list_any test xs ≡ false → length (filter test (x ∷ xs)) ≤ 1
one_more test x xs h = by (test x) refl
  where
    by : (b : Bool) → test x ≡ b → length (filter test (x ∷ xs)) ≤ 1
    by true is = rw is (let e : length (filter test xs) ≡ 0 = none_pass test xs h in omega arith)
    by false is = rw is (let e : length (filter test xs) ≡ 0 = none_pass test xs h in omega arith)

-- one more that does not pass
pub as_before : {X : Type 0} (test : X → Bool) (x : X) (xs : List X) → test x ≡ false → length (filter test xs) ≤ 1 → length (filter test (x ∷ xs)) ≤ 1
as_before test x xs is h = rw is h

-- ---- tickets

-- what is open was not closed
abbrev among : (closed : ℕ → Bool) → ℕ → List Errand → Bool
among closed ticket errands = list_any (λ errand. errand.ticket == ticket) (filter (λ errand. not (closed errand.ticket)) errands)

open_not_closed : (closed : ℕ → Bool) (ticket : ℕ) (errands : List Errand) → among closed ticket errands ≡ true → closed ticket ≡ false
open_not_closed closed ticket [] h = absurd (let e : false ≡ true = h in cc)
open_not_closed closed ticket (errand ∷ others) h =
    by (closed errand.ticket) refl (errand.ticket == ticket) refl (open_not_closed closed ticket others) h
  where
    by : (b : Bool) → closed errand.ticket ≡ b → (same : Bool) → (errand.ticket == ticket) ≡ same
        → (among closed ticket others ≡ true → closed ticket ≡ false)
        → among closed ticket (errand ∷ others) ≡ true → closed ticket ≡ false
    by true is same at rest h = rest (subst (λ (shut : Bool). list_any (λ one. one.ticket == ticket)
        (if not shut then errand ∷ filter (λ one. not (closed one.ticket)) others else filter (λ one. not (closed one.ticket)) others) ≡ true) is h)
    by false is true at rest h = subst (λ (number : ℕ). closed number ≡ false) (equal_numbers errand.ticket ticket at) is
    by false is false at rest h = rest (subst (λ (here : Bool). (here || among closed ticket others) ≡ true) at
        (subst (λ (shut : Bool). list_any (λ one. one.ticket == ticket)
        (if not shut then errand ∷ filter (λ one. not (closed one.ticket)) others else filter (λ one. not (closed one.ticket)) others) ≡ true) is h))

open_unclosed : (past : List Event) (ticket : ℕ) → is_open past ticket ≡ true → is_closed past ticket ≡ false
open_unclosed past ticket h = open_not_closed (λ number. is_closed past number) ticket (begun_of past) h

-- the history that is told of is the one that is told
pub history_of : (run : Fixed) (history : List Event) → (known_of run history).history ≡ history
unfolding known_of
history_of run [] = refl
history_of run (event ∷ past) = ap (λ (events : List Event). event ∷ events) (history_of run past)

module _ (run : Fixed) where
  abbrev closings : ℕ → List Event → ℕ
  closings ticket history = length (filter (λ event. closes ticket event.what) history)

  pub unclosed : (seat ticket : ℕ) (past : List Event) → is_seats (known_of run past) seat ticket ≡ true → is_closed past ticket ≡ false
  unclosed seat ticket past mine =
      open_unclosed past ticket (subst (λ (events : List Event). is_open events ticket ≡ true) (history_of run past) (and_left _ _ mine))

  -- an event that closes a ticket closes one that was not closed
  closing : (seat closed ticket : ℕ) (past : List Event) (what : What) → closes ticket what ≡ (closed == ticket)
      → is_seats (known_of run past) seat closed ≡ true
      → closings ticket past ≤ 1 → closings ticket (record { seat = seat; what = what } ∷ past) ≤ 1
  closing seat closed ticket past what says mine before = by (closed == ticket) refl
    where
      by : (b : Bool) → (closed == ticket) ≡ b → closings ticket (record { seat = seat; what = what } ∷ past) ≤ 1
      by true is = one_more (λ event. closes ticket event.what) (record { seat = seat; what = what }) past
          (subst (λ (number : ℕ). is_closed past number ≡ false) (equal_numbers closed ticket is) (unclosed seat closed past mine))
      by false is = as_before (λ event. closes ticket event.what) (record { seat = seat; what = what }) past (says ∙ is) before

  closed_step : (seat ticket : ℕ) (past : List Event) (what : What) → MayHappen (known_of run past) seat what
      → closings ticket past ≤ 1 → closings ticket (record { seat = seat; what = what } ∷ past) ≤ 1
  closed_step seat ticket past (Answered closed reply) may before =
      closing seat closed ticket past (Answered closed reply) refl may.closes before
  closed_step seat ticket past (Lost closed why) may before = closing seat closed ticket past (Lost closed why) refl may before
  closed_step seat ticket past _ may before = before

  pub closed_at_most_once : (history : List Event) (ticket : ℕ) → IsOrderly run history → closings ticket history ≤ 1
  closed_at_most_once [] ticket orderly = omega arith
  closed_at_most_once (event ∷ past) ticket orderly =
      closed_step event.seat ticket past event.what orderly.1 (closed_at_most_once past ticket orderly.0)

-- ---- operations

equal_subjects : (a b : Subject) → same_subject a b ≡ true → a ≡ b
equal_subjects (subject.Goal a) (subject.Goal b) h = ap subject.Goal (equal_numbers a b h)
equal_subjects (subject.Row a) (subject.Row b) h = ap subject.Row (equal_numbers a b h)
equal_subjects (subject.Pending a) (subject.Pending b) h = ap subject.Pending (equal_numbers a b h)
equal_subjects _ _ h = absurd (let e : false ≡ true = h in cc)

pub equal_sources : (a b : Source) → same_source a b ≡ true → a ≡ b
equal_sources (source.Goal a) (source.Goal b) h = ap source.Goal (equal_numbers a b h)
equal_sources (source.Row a) (source.Row b) h = ap source.Row (equal_numbers a b h)
equal_sources _ _ h = absurd (let e : false ≡ true = h in cc)

pub equal_ops : (a b : Op) → same_op a b ≡ true → a ≡ b
equal_ops (op.CheckConfig a) (op.CheckConfig b) h = ap op.CheckConfig (equal_subjects a b h)
equal_ops (op.Configure a) (op.Configure b) h = ap op.Configure (equal_sources a b h)
equal_ops (op.Check a) (op.Check b) h = ap op.Check (equal_subjects a b h)
equal_ops (op.Diff a) (op.Diff b) h = ap op.Diff (equal_subjects a b h)
equal_ops (op.Create a) (op.Create b) h = ap op.Create (equal_subjects a b h)
equal_ops (op.Update a) (op.Update b) h = ap op.Update (equal_subjects a b h)
equal_ops (op.Delete a) (op.Delete b) h = ap op.Delete (equal_subjects a b h)
equal_ops (op.Read a) (op.Read b) h = ap op.Read (equal_subjects a b h)
equal_ops (op.Invoke a) (op.Invoke b) h = ap op.Invoke (equal_numbers a b h)
equal_ops _ _ h = absurd (let e : false ≡ true = h in cc)

wanted_unbegun : (known : Known) (about : Op) → is_wanted_op known about ≡ true → was_begun known.history about ≡ false
wanted_unbegun known about h = not_true (was_begun known.history about) (and_left _ (is_asked known about) h)

-- what is ready on a lane was not begun, a configuration aside
pub ready_unbegun : (known : Known) (about : Op) (lane : ℕ) → is_configure about ≡ false → is_ready_on known about lane ≡ true → was_begun known.history about ≡ false
ready_unbegun known (op.CheckConfig about) lane other h =
    wanted_unbegun known (op.CheckConfig about) (and_right (not (has_problem known)) _ (and_left _ (is_next_lane known lane) h))
ready_unbegun known (op.Configure provider) lane other h = absurd (let e : true ≡ false = other in cc)
ready_unbegun known (op.Check about) lane other h =
    wanted_unbegun known (op.Check about) (and_right (not (has_problem known)) _ (and_left _ (is_lane_of known (op.Check about) lane) h))
ready_unbegun known (op.Diff about) lane other h =
    wanted_unbegun known (op.Diff about) (and_right (not (has_problem known)) _ (and_left _ (is_lane_of known (op.Diff about) lane) h))
ready_unbegun known (op.Create about) lane other h =
    wanted_unbegun known (op.Create about) (and_right (not (has_problem known)) _ (and_left _ (is_lane_of known (op.Create about) lane) h))
ready_unbegun known (op.Update about) lane other h =
    wanted_unbegun known (op.Update about) (and_right (not (has_problem known)) _ (and_left _ (is_lane_of known (op.Update about) lane) h))
ready_unbegun known (op.Delete about) lane other h =
    wanted_unbegun known (op.Delete about) (and_right (not (has_problem known)) _ (and_left _ (is_lane_of known (op.Delete about) lane) h))
ready_unbegun known (op.Read about) lane other h =
    wanted_unbegun known (op.Read about) (and_right (not (has_problem known)) _ (and_left _ (is_lane_of known (op.Read about) lane) h))
ready_unbegun known (op.Invoke n) lane other h =
    wanted_unbegun known (op.Invoke n) (and_right (not (has_problem known)) _ (and_left _ (is_lane_of known (op.Invoke n) lane) h))

due_unbegun : (known : Known) (about : Op) (lane : ℕ) → is_configure about ≡ false → is_due_on known about lane ≡ true → was_begun known.history about ≡ false
due_unbegun known about lane other h =
    ready_unbegun known about lane other (and_left (is_ready_on known about lane) (not (passes_limit known (to_send about))) h)

module _ (run : Fixed) (about : Op) (other : is_configure about ≡ false) where
  abbrev begins_it : Errand → Bool
  begins_it errand = same_op errand.op about

  abbrev times : List Event → ℕ
  times history = length (filter begins_it (begun_of history))

  began : (seat ticket lane : ℕ) (one : Op) (past : List Event) → is_due_on (known_of run past) one lane ≡ true
      → times past ≤ 1 → times (record { seat = seat; what = Begun ticket lane one } ∷ past) ≤ 1
  began seat ticket lane one past due before = by (same_op one about) refl
    where
      errand : Errand
      errand = record { ticket = ticket; seat = seat; lane = lane; op = one }

      by : (b : Bool) → same_op one about ≡ b → times (record { seat = seat; what = Begun ticket lane one } ∷ past) ≤ 1
      by true is =
          let due_it : is_due_on (known_of run past) about lane ≡ true =
          subst (λ (it : Op). is_due_on (known_of run past) it lane ≡ true) (equal_ops one about is) due in
          let never : was_begun past about ≡ false =
          subst (λ (events : List Event). was_begun events about ≡ false) (history_of run past) (due_unbegun (known_of run past) about lane other due_it) in
          one_more begins_it (record { ticket = ticket; seat = seat; lane = lane; op = one }) (begun_of past) never
      by false is = as_before begins_it (record { ticket = ticket; seat = seat; lane = lane; op = one }) (begun_of past) is before

  begun_step : (seat : ℕ) (past : List Event) (what : What) → MayHappen (known_of run past) seat what
      → times past ≤ 1 → times (record { seat = seat; what = what } ∷ past) ≤ 1
  begun_step seat past (Begun ticket lane one) may before = began seat ticket lane one past may.due before
  begun_step seat past _ may before = before

  pub begun_at_most_once : (history : List Event) → IsOrderly run history → times history ≤ 1
  begun_at_most_once [] orderly = omega arith
  begun_at_most_once (event ∷ past) orderly = begun_step event.seat past event.what orderly.1 (begun_at_most_once past orderly.0)
