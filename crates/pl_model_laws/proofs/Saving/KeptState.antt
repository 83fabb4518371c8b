-- The state stays with an event that need not be saved.
use Rattle.std.proofs.Common.{◌≡◌, ℕ, ◌==◌, Bool, true, false, not, ◌&&◌, ◌||◌, List, [], ◌∷◌, ◌++◌, filter, map, reverse, Option, Some, None, refl, sym, ◌∙◌, ap, subst, inl, inr, option_map, cond}
use Rattle.std.proofs.Math.Path.{fun_ext}
use Rattle.std.specs.List.{cons_option, enumerate_from}
use Rattle.pl_lemmas.proofs.Numbers.{equal_numbers}
use Rattle.pl_lemmas.proofs.Each.{Each, IsAmong, each_weaker, each_reverse}
use Rattle.pl_lemmas.specs.Words.{some_passes}
use Rattle.pl_state.specs.declared.entry.Entry.{Entry}
use Rattle.pl_state.specs.declared.pending.Pending.{Pending}
use Rattle.pl_state.specs.declared.snapshot.Snapshot.{Snapshot}
use Rattle.pl_events.specs.declared.event.Event.{Event}
use Rattle.pl_events.specs.declared.event.What.{What}
use Rattle.pl_events.specs.declared.event.What.TheVariants.{Begun, Answered}
use Rattle.pl_events.specs.declared.operation.Op.{Op}
use Rattle.pl_events.specs.declared.operation.Op.TheVariants as op
use Rattle.pl_events.specs.declared.reply.Reply.{Reply}
use Rattle.pl_model.specs.declared.errand.Errand.{Errand}
use Rattle.pl_model.specs.declared.errand.Opened.{Opened}
use Rattle.pl_model.specs.declared.fixed.Fixed.{Fixed}
use Rattle.pl_model.specs.Run.{is_preview}
use Rattle.pl_model.specs.Tickets.{begun_of, closed_by, errand_at, errand_of}
use Rattle.pl_model.specs.History.{known_of}
use Rattle.pl_model.specs.Known.{Known}
use Rattle.pl_model.specs.Legal.{IsOrderly}
use Rattle.pl_model.specs.Saves.{changes_state, closes_saved, is_covered}
use Rattle.pl_model.specs.State.{base_pending, entries_now, is_answered, is_cleared, opened_by, opened_of, own_pending, pending_for, pending_of, state_of, was_answered}
use Rattle.pl_model_stays.proofs.Lists.Growing.{run_of}
use Rattle.pl_model_stays.proofs.Operations.Once.{history_of}
use Rattle.pl_model_stays.proofs.Operations.Ticketing.{errand-own}
use Rattle.pl_model_laws.specs.Kept.{UnsavedStays}
use Rattle.pl_model_laws.proofs.Saving.KeptAnswers.{answers_none, cleared-row-same, opens_none, with_op}
use Rattle.pl_model_laws.proofs.Saving.KeptRows.{entries-same}

-- ---- lists

-- tests that say the same of each of a list leave the same of it
filtered_same : {X : Type 0} (test other : X → Bool) (xs : List X) → Each (λ x. test x ≡ other x) xs → filter test xs ≡ filter other xs
filtered_same test other [] h = refl
filtered_same {X = X} test other (x ∷ xs) h = by (test x) (other x) h.0 (filtered_same test other xs h.1)
  where
    by : (a b : Bool) → a ≡ b → filter test xs ≡ filter other xs
        → cond a (x ∷ filter test xs) (filter test xs) ≡ cond b (x ∷ filter other xs) (filter other xs)
    by true true same rest = ap (λ (ys : List X). x ∷ ys) rest
    by false false same rest = rest
    by true false same rest = absurd (let e : true ≡ false = same in cc)
    by false true same rest = absurd (let e : false ≡ true = same in cc)

-- ---- what the run opened

-- what is pending was opened by an operation that changes a thing
record IsOpened (past : List Event) (opened : Opened) : Type 0 where
  errand : Errand
  among : IsAmong errand (begun_of past)
  own : errand.ticket ≡ opened.ticket
  covered : is_covered errand.op ≡ true

opened_later : (event : Event) (past : List Event) (opened : Opened) → IsOpened past opened → IsOpened (event ∷ past) opened
opened_later event past opened h = record {
  errand = h.errand;
  among = by (errand_of event);
  own = h.own;
  covered = h.covered;
}
  where
    by : (o : Option Errand) → IsAmong h.errand (cons_option o (begun_of past))
    by None = h.among
    by (Some errand) = inr h.among

-- what opens something changes a thing
opens_covered : (known : Known) (about : Op) (pending : Pending) → pending_for known about ≡ Some pending → is_covered about ≡ true
opens_covered known (op.Create on) pending h = refl
opens_covered known (op.Update on) pending h = refl
opens_covered known (op.Delete on) pending h = refl
opens_covered known _ pending h = absurd (let none : Option Pending = None in let e : none ≡ Some pending = h in cc)

-- what an event opens was begun by it
opened_now : (known : Known) (seat : ℕ) (past : List Event) (what : What) (opened : Opened) → opened_by known what ≡ Some opened
    → IsOpened (record { seat = seat; what = what } ∷ past) opened
opened_now known seat past (Begun ticket lane about) opened h = by (pending_for known about) refl h
  where
    by : (o : Option Pending) → pending_for known about ≡ o
        → option_map (λ (pending : Pending). record { ticket = ticket; pending = pending }) o ≡ Some opened
        → IsOpened (record { seat = seat; what = Begun ticket lane about } ∷ past) opened
    by None is h = absurd (let none : Option Opened = None in let e : none ≡ Some opened = h in cc)
    by (Some pending) is h = record {
      errand = record { ticket = ticket; seat = seat; lane = lane; op = about };
      among = inl refl;
      own = ap (λ (one : Opened). one.ticket) (let same : record { ticket = ticket; pending = pending } ≡ opened = cc in same);
      covered = opens_covered known about pending is;
    }
opened_now known seat past _ opened h = absurd (let none : Option Opened = None in let e : none ≡ Some opened = h in cc)

-- any reply to what changes a thing must be saved
covers_saved : (about : Op) (said : Reply) → is_covered about ≡ true → closes_saved (with_op said about) ≡ true
covers_saved (op.Create on) said h = refl
covers_saved (op.Update on) said h = refl
covers_saved (op.Delete on) said h = refl
covers_saved _ said h = absurd (let e : false ≡ true = h in cc)

each_opened : (run : Fixed) (history : List Event) → Each (IsOpened history) (opened_of run history)
unfolding opened_of
each_opened run [] = tt
each_opened run (event ∷ past) =
    by (opened_by (known_of run past) event.what) refl
    (each_weaker (IsOpened past) (IsOpened (event ∷ past)) (opened_later event past) (opened_of run past) (each_opened run past))
  where
    by : (o : Option Opened) → opened_by (known_of run past) event.what ≡ o → Each (IsOpened (event ∷ past)) (opened_of run past)
        → Each (IsOpened (event ∷ past)) (cons_option o (opened_of run past))
    by None is rest = rest
    by (Some opened) is rest = (opened_now (known_of run past) event.seat past event.what opened is, rest)

module _ (run : Fixed) (event : Event) (past : List Event) (orderly : IsOrderly run (event ∷ past))
    (unsaved : changes_state (known_of run past) event.what ≡ false) where
  abbrev before : Known
  before = known_of run past

  abbrev after : Known
  after = known_of run (event ∷ past)

  runs_same : after.run ≡ before.run
  runs_same = run_of run (event ∷ past) ∙ sym (run_of run past)

  -- ---- what is pending

  opened_same : opened_of run (event ∷ past) ≡ opened_of run past
  unfolding opened_of
  opened_same = ap (λ (o : Option Opened). cons_option o (opened_of run past)) (opens_none run event past unsaved)

  -- no reply to what is pending is left unsaved
  unanswered : (opened : Opened) → IsOpened past opened → is_answered opened.ticket event.what ≡ false
  unanswered opened h = by event.what (answers_none run event past unsaved)
    where
      by : (what : What) → some_passes closes_saved (closed_by past what) ≡ false → is_answered opened.ticket what ≡ false
      by (Answered ticket said) none = at (ticket == opened.ticket) refl
        where
          at : (b : Bool) → (ticket == opened.ticket) ≡ b → b ≡ false
          at false is = refl
          at true is =
              let same : h.errand.ticket ≡ ticket = h.own ∙ sym (equal_numbers ticket opened.ticket is) in
              let found : errand_at past ticket ≡ Some h.errand =
              subst (λ (n : ℕ). errand_at past n ≡ Some h.errand) same (errand-own run past h.errand orderly.0 h.among) in
              let saved : some_passes closes_saved (closed_by past (Answered ticket said)) ≡ true =
              ap (λ (o : Option Errand). some_passes closes_saved (option_map (with_op said) (option_map (λ (errand : Errand). errand.op) o))) found
              ∙ covers_saved h.errand.op said h.covered in
              absurd (let e : true ≡ false = sym saved ∙ none in cc)
      by _ none = refl

  left_open : (opened : Opened) → IsOpened past opened
      → not (was_answered (event ∷ past) opened.ticket) ≡ not (was_answered past opened.ticket)
  left_open opened h = ap (λ (b : Bool). not (b || was_answered past opened.ticket)) (unanswered opened h)

  own_same : own_pending run (event ∷ past) ≡ own_pending run past
  own_same =
      ap (λ (all : List Opened). map (λ opened. opened.pending)
      (filter (λ opened. not (was_answered (event ∷ past) opened.ticket)) (reverse all))) opened_same
      ∙ ap (λ (all : List Opened). map (λ opened. opened.pending) all)
      (filtered_same (λ opened. not (was_answered (event ∷ past) opened.ticket)) (λ opened. not (was_answered past opened.ticket))
      (reverse (opened_of run past))
      (each_weaker (IsOpened past)
      (λ opened. not (was_answered (event ∷ past) opened.ticket) ≡ not (was_answered past opened.ticket)) left_open
      (reverse (opened_of run past)) (each_reverse (IsOpened past) (opened_of run past) (each_opened run past))))

  base_same : base_pending after ≡ base_pending before
  base_same =
      ap (λ (fixed : Fixed). map (λ one. one.1) (filter (λ one. not (is_cleared after one.0)) (enumerate_from 0 fixed.base.pending))) runs_same
      ∙ ap (λ (test : ℕ × Pending → Bool). map (λ one. one.1) (filter test (enumerate_from 0 before.run.base.pending)))
      (fun_ext (λ one. ap (λ (b : Bool). not b) (cleared-row-same run event past unsaved one.0)))

  own_known : (history : List Event) → own_pending (known_of run history).run (known_of run history).history ≡ own_pending run history
  own_known history =
      ap (λ (fixed : Fixed). own_pending fixed (known_of run history).history) (run_of run history)
      ∙ ap (λ (events : List Event). own_pending run events) (history_of run history)

  pending_same : pending_of after ≡ pending_of before
  pending_same =
      ap (λ (all : List Pending). all ++ own_pending after.run after.history) base_same
      ∙ ap (λ (all : List Pending). base_pending before ++ all) (own_known (event ∷ past) ∙ own_same ∙ sym (own_known past))

  state_same : state_of run (event ∷ past) ≡ state_of run past
  state_same =
      ap (λ (fixed : Fixed). state_by fixed (entries_now after) (pending_of after)) runs_same
      ∙ ap (λ (entries : List Entry). state_by before.run entries (pending_of after))
      (entries-same run event past orderly unsaved)
      ∙ ap (λ (pending : List Pending). state_by before.run (entries_now before) pending) pending_same
    where
      state_by : Fixed → List Entry → List Pending → Snapshot
      state_by fixed entries pending =
          record { stack = fixed.base.stack; entries = entries; pending = pending; rest = fixed.base.rest }

-- where a run is no preview, what need not be saved changes no state
unsaved_changes : (run : Fixed) (past : List Event) (what : What) → is_preview run.mode ≡ false
    → (not (is_preview (known_of run past).run.mode) && changes_state (known_of run past) what) ≡ false
    → changes_state (known_of run past) what ≡ false
unsaved_changes run past what real h =
    subst (λ (b : Bool). (not b && changes_state (known_of run past) what) ≡ false)
    (ap (λ (fixed : Fixed). is_preview fixed.mode) (run_of run past) ∙ real) h

pub unsaved-stays : UnsavedStays
unsaved-stays = λ run event past real orderly unsaved.
    state_same run event past orderly (unsaved_changes run past event.what real unsaved)
