-- What an event that may happen tells of the history before it.
use Rattle.std.proofs.Common.{◌≡◌, ℕ, ◌+◌, ◌==◌, ◌<◌, true, false, not, ◌&&◌, ◌||◌, List, length, slice_get, nat_lt, sym, ◌∙◌, ap, arith}
use Rattle.std.proofs.lemmas.Bool.{not-true}
use Rattle.std.proofs.lemmas.Option.{slice_get_within}
use Rattle.std.specs.List.{list_any}
use Rattle.pl_lemmas.specs.Words.{has_number, some_passes}
use Rattle.pl_lemmas.proofs.Numbers.{below_length}
use Rattle.pl_lemmas.proofs.Options.{passing}
use Rattle.pl_lemmas.proofs.Truth.{and_left, and_right, neither_left}
use Rattle.pl_events.specs.Closing.{has_stop}
use Rattle.pl_events.specs.declared.event.Event.{Event}
use Rattle.pl_events.specs.declared.event.Stop.{Stop}
use Rattle.pl_events.specs.declared.operation.Op.TheVariants as op
use Rattle.pl_events.specs.declared.operation.Subject.TheVariants as subject
use Rattle.pl_model.specs.declared.fixed.Fixed.{Fixed}
use Rattle.pl_model.specs.declared.work.Work.TheVariants.{Clear as to_clear, Drop as to_drop}
use Rattle.pl_model.specs.Due.{has_open, is_clear_ready, is_due, is_post_due, is_ready, is_removable, is_settled, is_settled_request, passes_limit}
use Rattle.pl_model.specs.History.{known_of}
use Rattle.pl_model.specs.Known.{Known, asked_at, has_problem, is_over}
use Rattle.pl_model.specs.Legal.{MayStop, is_seats}
use Rattle.pl_model.specs.Recording.{cleared_of, posted_of, removed_of}
use Rattle.pl_model.specs.Rows.{has_dependents, is_doomed, is_left, is_taken_out, is_taken_over, is_target, pending_at, takes_along, was_removed}
use Rattle.pl_model.specs.Run.{is_preview, is_refresh, rows_of}
use Rattle.pl_model.specs.State.{is_cleared, is_found}
use Rattle.pl_model.specs.Tickets.{errand_at, is_open, reply_to}
use Rattle.pl_model_stays.proofs.Lists.Growing.{run_of}
use Rattle.pl_model_stays.proofs.Operations.Once.{history_of}
use Rattle.pl_model_stays.proofs.Work.Listing.{dropped-removable}

module _ (run : Fixed) (past : List Event) where
  abbrev known : Known
  known = known_of run past

  -- ---- drops

  removable : (row : ℕ) → is_due known (to_drop row) ≡ true → is_removable known row ≡ true
  removable row due = dropped-removable known row due

  doomed_alone : (row : ℕ) → is_due known (to_drop row) ≡ true → (is_doomed known row && not (was_removed known row)) ≡ true
  doomed_alone row due =
      and_left (is_doomed known row && not (was_removed known row)) (not (has_dependents known row))
      (and_left (is_doomed known row && not (was_removed known row) && not (has_dependents known row)) (not (is_preview known.run.mode))
      (removable row due))

  pub drop_new : (row : ℕ) → is_due known (to_drop row) ≡ true → has_number (removed_of past) row ≡ false
  drop_new row due =
      ap (λ (events : List Event). has_number (removed_of events) row) (sym (history_of run past))
      ∙ not-true (was_removed known row) (and_right (is_doomed known row) (not (was_removed known row)) (doomed_alone row due))

  left : (row : ℕ) → is_due known (to_drop row) ≡ true → is_left known row ≡ true
  left row due =
      and_left (is_left known row) (not (is_refresh known.run.mode))
      (and_left (is_left known row && not (is_refresh known.run.mode)) (is_target known row)
      (and_left (is_left known row && not (is_refresh known.run.mode) && is_target known row)
      (is_over known || list_any (takes_along known row) known.decided)
      (and_left (is_doomed known row) (not (was_removed known row)) (doomed_alone row due))))

  pub drop_within : (row : ℕ) → is_due known (to_drop row) ≡ true → row < length (rows_of run)
  drop_within row due =
      let within : row < 0 + length (rows_of run) =
      below_length row (length (rows_of run))
      (ap (λ (fixed : Fixed). nat_lt row (length (rows_of fixed))) (sym (run_of run past))
      ∙ and_left (nat_lt row (length (rows_of known.run))) (not (is_taken_out known row))
      (and_left (nat_lt row (length (rows_of known.run)) && not (is_taken_out known row)) (not (is_taken_over known row)) (left row due))) in
      omega arith

  -- ---- clears

  ready : (at : ℕ) → is_due known (to_clear at) ≡ true → is_clear_ready known at ≡ true
  ready at due =
      and_right (not (has_problem known)) (is_clear_ready known at)
      (and_left (is_ready known (to_clear at)) (not (passes_limit known (to_clear at))) due)

  uncleared : (at : ℕ) → is_due known (to_clear at) ≡ true → is_cleared known at ≡ false
  uncleared at due =
      not-true (is_cleared known at)
      (and_right (is_refresh known.run.mode) (not (is_cleared known at))
      (and_left (is_refresh known.run.mode && not (is_cleared known at)) (some_passes (is_settled known at) (pending_at known at)) (ready at due)))

  pub clear_new : (at : ℕ) → is_due known (to_clear at) ≡ true → has_number (cleared_of past) at ≡ false
  clear_new at due =
      ap (λ (events : List Event). has_number (cleared_of events) at) (sym (history_of run past))
      ∙ neither_left (has_number (cleared_of known.history) at) (is_found (reply_to known.answers (op.Read (subject.Pending at))))
      (uncleared at due)

  pub clear_within : (at : ℕ) → is_due known (to_clear at) ≡ true → at < length run.base.pending
  clear_within at due =
      let found = passing (is_settled known at) (pending_at known at)
      (and_right (is_refresh known.run.mode && not (is_cleared known at)) (some_passes (is_settled known at) (pending_at known at)) (ready at due)) in
      slice_get_within run.base.pending at found.0
      (ap (λ (fixed : Fixed). slice_get fixed.base.pending at) (sym (run_of run past)) ∙ found.1)

  -- ---- posts, stops and losses

  pub post_new : (n : ℕ) → is_post_due known n ≡ true → has_number (posted_of past) n ≡ false
  post_new n due =
      ap (λ (events : List Event). has_number (posted_of events) n) (sym (history_of run past))
      ∙ not-true (has_number (posted_of known.history) n)
      (and_left (not (has_number (posted_of known.history) n))
      (some_passes (λ asked. is_settled_request known asked || (has_problem known && not (has_open known))) (asked_at known n)) due)

  pub stop_new : (stop : Stop) → MayStop known stop → has_stop past ≡ false
  stop_new stop may = ap has_stop (sym (history_of run past)) ∙ may.first

  pub seat_open : (seat ticket : ℕ) → is_seats known seat ticket ≡ true → is_open past ticket ≡ true
  seat_open seat ticket mine =
      ap (λ (events : List Event). is_open events ticket) (sym (history_of run past))
      ∙ and_left (is_open known.history ticket) (some_passes (λ errand. errand.seat == seat) (errand_at known.history ticket)) mine
