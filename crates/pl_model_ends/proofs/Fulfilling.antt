-- An `up` that is done leaves the entries of its goals, and nothing else.
use Rattle.std.proofs.Common.{◌≡◌, ℕ, ◌<◌, Bool, true, false, not, ◌&&◌, ◌||◌, if◌then◌else◌, inl, inr, List, [], ◌∷◌, ◌++◌, Contains, filter, filter_map, length, map, reverse, Option, Some, None, is_some, refl, sym, ◌∙◌, ap, subst, arith, option_map}
use Rattle.std.proofs.lemmas.List.{append-nil, length-reverse}
use Rattle.std.specs.List.{cons_option, enumerate_from, list_any}
use Rattle.std.proofs.lemmas.Bool.{or_right}
use Rattle.pl_lemmas.proofs.Numbers.{same_number, range_passes, contains_number}
use Rattle.pl_lemmas.proofs.Each.{Each, IsAmong, each_weaker, each_reverse, all_found}
use Rattle.pl_state.specs.declared.entry.Entry.{Entry}
use Rattle.pl_state.specs.declared.pending.Pending.{Pending}
use Rattle.pl_events.specs.declared.event.Event.{Event}
use Rattle.pl_events.specs.declared.event.What.{What}
use Rattle.pl_events.specs.declared.event.What.TheVariants.{Begun}
use Rattle.pl_events.specs.declared.reply.Reply.{Reply}
use Rattle.pl_model.specs.declared.errand.Errand.{Errand}
use Rattle.pl_model.specs.declared.errand.Opened.{Opened}
use Rattle.pl_model.specs.declared.fixed.Fixed.{Fixed}
use Rattle.pl_model.specs.declared.mode.Mode.{Mode}
use Rattle.pl_model.specs.declared.mode.Mode.TheVariants.{Up}
use Rattle.pl_model.specs.Run.{is_destroy, is_preview, is_refresh}
use Rattle.pl_model.specs.Due.{IsQuiet}
use Rattle.pl_model.specs.Entries.{new_entries, old_entries, old_row, recorded_entry}
use Rattle.pl_model.specs.Fulfilment.{AllOnce}
use Rattle.pl_model.specs.History.{known_of}
use Rattle.pl_model.specs.Known.{Known, all_recorded, has_problem, host_ended, is_over, is_recorded}
use Rattle.pl_model.specs.Legal.{IsOrderly}
use Rattle.pl_lemmas.specs.Words.{has_number}
use Rattle.pl_model.specs.Recording.{recorded_of}
use Rattle.pl_model.specs.Rows.{is_left, is_target, row_numbers, takes_along}
use Rattle.pl_model.specs.State.{base_pending, entries_now, is_answered, is_cleared, opened_by, opened_of, own_pending, pending_for, pending_of, refreshed_entries, was_answered}
use Rattle.pl_model.specs.Tickets.{begun_of, is_closed}
use Rattle.pl_model_stays.proofs.Lists.Growing.{numbered_below, run_of}
use Rattle.pl_model_stays.proofs.Goals.KeptEntries.{recorded-has-entry}
use Rattle.pl_model_stays.proofs.Operations.Once.{history_of, both}
use Rattle.pl_model_stays.proofs.Goals.Recorded.{recorded-held, recorded_at_most_once}
use Rattle.pl_model_stays.proofs.Goals.Staying.{recorded-as}
use Rattle.pl_model_stays.proofs.Operations.Ticketing.{WasAnswered, closed_answered, closed_errand}
use Rattle.pl_model_laws.specs.Quiet.{IsAllDone}
use Rattle.pl_model_laws.proofs.Endings.Quieting.{quiet-is-done}
use Rattle.pl_model_laws.proofs.Endings.Troubles.{or_first}
use Rattle.pl_model_ends.specs.Ends.{UpFulfils}
use Rattle.pl_model_ends.proofs.Numbers.{all_once, each_number, none_kept}

-- ---- nothing is pending

abbrev pub event_of : ℕ → What → Event
event_of seat what = record { seat = seat; what = what }

abbrev pub opened_with : ℕ → Pending → Opened
opened_with ticket pending = record { ticket = ticket; pending = pending }

-- what was opened has the ticket of an errand that was begun
abbrev pub HasErrand : List Event → Opened → Type 0
HasErrand history opened = (errand : Errand) × IsAmong errand (begun_of history) × (errand.ticket ≡ opened.ticket)

module _ (run : Fixed) where
  opened_step : (seat : ℕ) (past : List Event) (what : What) → Each (HasErrand past) (opened_of run past)
      → Each (HasErrand (event_of seat what ∷ past)) (cons_option (opened_by (known_of run past) what) (opened_of run past))
  opened_step seat past (Begun ticket lane about) rest = by (pending_for (known_of run past) about)
    where
      grown : Each (HasErrand (event_of seat (Begun ticket lane about) ∷ past)) (opened_of run past)
      grown =
          each_weaker (HasErrand past) (HasErrand (event_of seat (Begun ticket lane about) ∷ past))
          (λ opened h. (h.0, inr h.1, h.2)) (opened_of run past) rest

      by : (o : Option Pending)
          → Each (HasErrand (event_of seat (Begun ticket lane about) ∷ past)) (cons_option (option_map (opened_with ticket) o) (opened_of run past))
      by None = grown
      by (Some pending) = ((record { ticket = ticket; seat = seat; lane = lane; op = about }, inl refl, refl), grown)
  opened_step seat past _ rest = rest

  pub opened-errands : (history : List Event) → Each (HasErrand history) (opened_of run history)
  unfolding opened_of
  opened-errands [] = tt
  opened-errands (event ∷ past) = opened_step event.seat past event.what (opened-errands past)

-- a reply that came counts
was_heard : (history : List Event) (ticket : ℕ) (said : Reply) → WasAnswered history ticket said → was_answered history ticket ≡ true
was_heard [] ticket said h = absurd h
was_heard (event ∷ past) ticket said (inl is) =
    or_first (is_answered ticket event.what) (was_answered past ticket)
    (ap (λ (what : What). is_answered ticket what) is ∙ same_number ticket)
was_heard (event ∷ past) ticket said (inr h) =
    or_right (is_answered ticket event.what) (was_answered past ticket) (was_heard past ticket said h)

module _ (run : Fixed) (history : List Event) (orderly : IsOrderly run history)
    (calm : has_problem (known_of run history) ≡ false) (quiet : IsQuiet (known_of run history)) where
  answered : (opened : Opened) → HasErrand history opened → not (was_answered history opened.ticket) ≡ false
  answered opened h =
      let shut : is_closed history h.0.ticket ≡ true = closed_errand run history quiet.closed h.0 h.1 in
      let said = closed_answered run history h.0.ticket orderly calm shut in
      ap (λ (b : Bool). not b)
      (subst (λ (n : ℕ). was_answered history n ≡ true) h.2 (was_heard history h.0.ticket said.0 said.1))

  -- every operation was answered, so that none is pending
  own-none : own_pending run history ≡ []
  own-none =
      ap (λ (left : List Opened). map (λ (opened : Opened). opened.pending) left)
      (none_kept (λ opened. not (was_answered history opened.ticket)) (reverse (opened_of run history))
      (each_reverse (λ opened. not (was_answered history opened.ticket) ≡ false) (opened_of run history)
      (each_weaker (HasErrand history) (λ opened. not (was_answered history opened.ticket) ≡ false) answered
      (opened_of run history) (opened-errands run history))))

  base_none : run.base.pending ≡ [] → base_pending (known_of run history) ≡ []
  base_none none =
      ap (λ (all : List Pending). map (λ (one : ℕ × Pending). one.1)
      (filter (λ (one : ℕ × Pending). not (is_cleared (known_of run history) one.0)) (enumerate_from 0 all)))
      (ap (λ (fixed : Fixed). fixed.base.pending) (run_of run history) ∙ none)

  pending-none : run.base.pending ≡ [] → pending_of (known_of run history) ≡ []
  pending-none none =
      ap (λ (front : List Pending). front ++ own_pending (known_of run history).run (known_of run history).history) (base_none none)
      ∙ ap (λ (fixed : Fixed). own_pending fixed (known_of run history).history) (run_of run history)
      ∙ ap (λ (events : List Event). own_pending run events) (history_of run history)
      ∙ own-none

-- ---- no row is left

-- a row that is left and not to be deleted would be one
not_left : (left other target cause : Bool) → other ≡ true → target ≡ true → cause ≡ true → (left && other && target && cause) ≡ false → left ≡ false
not_left true other target cause is wanted over none =
    absurd (let e : (other && target && cause) ≡ false = none in
    let whole : (other && target && cause) ≡ true = both (other && target) cause (both other target is wanted) over in
    let f : true ≡ false = sym whole ∙ e in cc)
not_left false other target cause is wanted over none = refl

module _ (run : Fixed) (history : List Event) (up : run.mode ≡ Up) (done : IsAllDone (known_of run history))
    (ended : host_ended (known_of run history) ≡ true) where
  abbrev known : Known
  known = known_of run history

  is_up : known.run.mode ≡ Up
  is_up = ap (λ (fixed : Fixed). fixed.mode) (run_of run history) ∙ up

  over : is_over known ≡ true
  over = both (host_ended known) (all_recorded known) ended done.recorded

  none_left : (row : ℕ) → is_left known row ≡ false
  none_left row =
      not_left (is_left known row) (not (is_refresh known.run.mode)) (is_target known row)
      (is_over known || list_any (takes_along known row) known.decided)
      (ap (λ (mode : Mode). not (is_refresh mode)) is_up)
      (or_first (not (is_destroy known.run.mode)) _ (ap (λ (mode : Mode). not (is_destroy mode)) is_up))
      (or_first (is_over known) _ over) (done.none_doomed row)

  each_none : (rows : List ℕ) → Each (λ row. is_left known row ≡ false) rows
  each_none [] = tt
  each_none (row ∷ rows) = (none_left row, each_none rows)

  old-none : old_entries known ≡ []
  old-none = ap (λ (rows : List ℕ). filter_map (old_row known) rows) (none_kept (is_left known) (row_numbers known) (each_none (row_numbers known)))

  pub only-new : entries_now known ≡ new_entries known
  only-new =
      ap (λ (mode : Mode). if is_refresh mode then refreshed_entries known else new_entries known ++ old_entries known) is_up
      ∙ ap (λ (rows : List Entry). new_entries known ++ rows) old-none
      ∙ append-nil (new_entries known)

-- ---- every goal is recorded once

module _ (run : Fixed) (history : List Event) (orderly : IsOrderly run history) (all : all_recorded (known_of run history) ≡ true) where
  abbrev now : Known
  now = known_of run history

  within : (k : ℕ) → has_number (recorded_of history) k ≡ true → k < length now.goals
  within k h =
      let there = recorded-held run history k orderly (recorded-as run history k ∙ h) in
      numbered_below now.goals k there.0 there.2.stands

  there : (k : ℕ) → k < length now.goals → has_number (recorded_of history) k ≡ true
  there k low = sym (recorded-as run history k) ∙ range_passes (is_recorded now) 0 (length now.goals) k (omega arith) (omega arith) all

  as_many : length (recorded_of history) ≡ length now.goals
  as_many = all_once (length now.goals) (recorded_of history) within there (λ k. recorded_at_most_once run history k orderly)

  pub all-once : AllOnce now
  all-once = record {
    count = ap (λ (events : List Event). length (recorded_of events)) (history_of run history) ∙ as_many;
    each = λ k low.
        subst (λ (events : List Event). Contains (recorded_of events) k) (sym (history_of run history))
        (contains_number (recorded_of history) k (there k low));
  }

  entry_there : (k : ℕ) → has_number (recorded_of now.history) k ≡ true → is_some (recorded_entry now k) ≡ true
  entry_there k h = recorded-has-entry run history k orderly h

  pub new-many : length (new_entries now) ≡ length now.goals
  new-many =
      all_found (recorded_entry now) (reverse (recorded_of now.history))
      (each_reverse (λ k. is_some (recorded_entry now k) ≡ true) (recorded_of now.history)
      (each_weaker (λ k. has_number (recorded_of now.history) k ≡ true) (λ k. is_some (recorded_entry now k) ≡ true) entry_there
      (recorded_of now.history) (each_number (recorded_of now.history))))
      ∙ length-reverse (recorded_of now.history)
      ∙ all-once.count

-- ---- the law

pub up-fulfils : UpFulfils
up-fulfils = λ run history is up orderly ended calm quiet.
    let real : is_preview run.mode ≡ false = ap (λ (mode : Mode). is_preview mode) up in
    let other : is_refresh run.mode ≡ false = ap (λ (mode : Mode). is_refresh mode) up in
    let done : IsAllDone (known_of run history) =
    quiet-is-done run history is.names real other is.some_children is.sound orderly ended calm quiet in
    let new : entries_now (known_of run history) ≡ new_entries (known_of run history) = only-new run history up done ended in
    record {
      fulfils = record {
        goals = all-once run history orderly done.recorded;
        entries = new;
        pending = pending-none run history orderly calm quiet (is.nothing_pending other);
      };
      as_many = ap (λ (rows : List Entry). length rows) new ∙ new-many run history orderly done.recorded;
    }
