-- A row that was taken out stays so, and no row comes back.
use Rattle.std.proofs.Common.{◌≡◌, ℕ, Bool, true, false, not, ◌&&◌, List, ◌∷◌, length, nat_lt, Some, subst}
use Rattle.pl_lemmas.proofs.Truth.{and_left, and_right, and_not}
use Rattle.pl_events.specs.declared.event.Event.{Event}
use Rattle.pl_decide.specs.Limited.{is_delete_first}
use Rattle.pl_model.specs.declared.decided.Decided.{Decided}
use Rattle.pl_model.specs.declared.fixed.Fixed.{Fixed}
use Rattle.pl_model.specs.Run.{rows_of}
use Rattle.pl_lemmas.specs.Words.{has_number, is_row}
use Rattle.pl_lemmas.proofs.Lists.{numbered_passes}
use Rattle.pl_model.specs.History.{known_of}
use Rattle.pl_model.specs.Known.{Known, decided_goal}
use Rattle.pl_model.specs.Legal.{IsOrderly}
use Rattle.pl_model.specs.Recording.{removed_of}
use Rattle.pl_model.specs.Rows.{is_deleted_first, is_left, is_taken_out, is_taken_over, was_removed}
use Rattle.pl_model_stays.proofs.Goals.Claiming.{passing_number}
use Rattle.pl_model_stays.proofs.Operations.Once.{history_of, not_true, left_parts}
use Rattle.pl_model_stays.proofs.Work.Listing.{removable-parts}
use Rattle.pl_model_laws.proofs.Rows.Leaving.{claimer_stays, left_made, not_earlier, removed_stays, same_run}
use Rattle.pl_model_laws.proofs.Rows.Removing.{claimed-then, later-before, later-now, removed-removable}

-- the claim of a goal that is deleted first
abbrev is_first : ℕ → Decided → Bool
is_first row one = is_delete_first one.decision && is_row one.claim row

module _ (run : Fixed) (event : Event) (past : List Event) (orderly : IsOrderly run (event ∷ past)) where
  abbrev before : Known
  before = known_of run past

  abbrev after : Known
  after = known_of run (event ∷ past)

  -- a row that was deleted or dropped is claimed by no goal that is decided later
  pub first-before : (row : ℕ) → was_removed before row ≡ true → is_deleted_first after row ≡ true → is_deleted_first before row ≡ true
  first-before row removed h =
      let found = passing_number (is_first row) after.decided h in
      let claims : is_row found.1.claim row ≡ true = and_right (is_delete_first found.1.decision) _ found.3 in
      let listed : has_number (removed_of past) row ≡ true =
      subst (λ (events : List Event). has_number (removed_of events) row ≡ true) (history_of run past) removed in
      let was = removed-removable run row past orderly.0 listed in
      let then_decided : decided_goal (known_of run was.past) found.0 ≡ Some found.1 =
      claimed-then run (event ∷ past) found.0 row found.1 found.2 claims was.past
      (was.later after (later-before run event past after orderly.1 (later-now run (event ∷ past)))) was.orderly
      (removable-parts (known_of run was.past) row was.removable).doomed in
      let still_decided : decided_goal before found.0 ≡ Some found.1 =
      (was.later before (later-now run past)).decisions found.0 found.1 then_decided in
      numbered_passes (is_first row) before.decided found.0 found.1 still_decided found.3

  -- a row that was taken out stays so
  pub taken-out-stays : (row : ℕ) → is_taken_out before row ≡ true → is_taken_out after row ≡ true
  taken-out-stays row h =
      let removed : was_removed before row ≡ true = and_left (was_removed before row) (not (is_deleted_first before row)) h in
      let free : is_deleted_first before row ≡ false =
      not_true (is_deleted_first before row) (and_right (was_removed before row) (not (is_deleted_first before row)) h) in
      and_not (was_removed after row) (is_deleted_first after row) (removed_stays run event past row removed)
      (not_earlier (is_deleted_first before row) (is_deleted_first after row) (first-before row removed) free)

  -- a row that is left was left before
  pub left-before : (row : ℕ) → is_left after row ≡ true → is_left before row ≡ true
  left-before row h =
      let parts = left_parts (nat_lt row (length (rows_of after.run))) (is_taken_out after row) (is_taken_over after row) h in
      left_made (nat_lt row (length (rows_of before.run))) (is_taken_out before row) (is_taken_over before row)
      (subst (λ (fixed : Fixed). nat_lt row (length (rows_of fixed)) ≡ true) (same_run run event past) parts.0)
      (not_earlier (is_taken_out after row) (is_taken_out before row) (taken-out-stays row) parts.1)
      (not_earlier (is_taken_over after row) (is_taken_over before row) (claimer_stays run event past row not) parts.2)
