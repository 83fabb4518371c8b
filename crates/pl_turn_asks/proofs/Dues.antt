-- What holds of the operations and keeps that are due.
use Rattle.std.proofs.Common.{◌≡◌, ◌&&◌, ◌||◌, ℕ, Bool, true, false, not, is_none, Option, Some, None, refl, ap, ◌∙◌}
use Rattle.std.proofs.lemmas.Bool.{not-true}
use Rattle.std.specs.List.{list_all, list_any}
use Rattle.pl_decide.specs.Limited.{is_refused}
use Rattle.pl_entries.specs.Recorded.{is_provider_decided}
use Rattle.pl_events.specs.declared.operation.Op.{Op}
use Rattle.pl_events.specs.declared.operation.Op.TheVariants as op
use Rattle.pl_events.specs.declared.operation.Subject.TheVariants as subject
use Rattle.pl_lemmas.specs.Words.{none_or, some_passes}
use Rattle.pl_lemmas.proofs.Options.{passing}
use Rattle.pl_lemmas.proofs.Truth.{and_left, and_right}
use Rattle.pl_model.specs.Due.{for_decided, is_asked, is_delete_ready, is_lane_of, is_placed, is_recorded_urn, is_removable, is_wanted_op, keeps_goal, op_of_goal, provider_stands, references_recorded, sends_goal, urn_is_free, way_is_free}
use Rattle.pl_model.specs.Known.{Known, decided_goal, goal_at, has_problem, is_decided, is_over, is_recorded}
use Rattle.pl_model.specs.Rows.{has_dependents, is_doomed, is_left, is_sent, is_target, takes_along, was_removed}
use Rattle.pl_model.specs.Run.{is_preview, is_refresh}
use Rattle.pl_model.specs.Tickets.{same_op, was_begun}
use Rattle.pl_model.specs.declared.decided.Decided.{Decided}
use Rattle.pl_snap.specs.Model.{Merged}
use Rattle.pl_state.specs.References.{further_urns}
use Rattle.pl_state.specs.declared.goal.Goal.{Goal}
use Rattle.pl_turn_asks.specs.Dues.{DeletesKept, KeepsDecided, RecordedAreDecided, SendsDecided}
use Rattle.pl_turn_asks.specs.Kept.{KeepsRows}

module _ (known : Known) where
  -- what is due on a free lane is asked
  asked_of : (about : Op) (lane : ℕ)
      → (not (has_problem known) && is_wanted_op known about && is_lane_of known about lane) ≡ true → is_asked known about ≡ true
  asked_of about lane ready =
      and_right (not (was_begun known.history about)) (is_asked known about)
      (and_right (not (has_problem known)) (is_wanted_op known about)
      (and_left (not (has_problem known) && is_wanted_op known about) (is_lane_of known about lane) ready))

  -- ---- rows

  module _ (row : ℕ) where
    doomed : is_delete_ready known row ≡ true → is_doomed known row ≡ true
    doomed ready =
        and_left (is_doomed known row) (not (was_removed known row))
        (and_left (is_doomed known row && not (was_removed known row)) (not (has_dependents known row))
        (and_left (is_doomed known row && not (was_removed known row) && not (has_dependents known row)) (not (is_preview known.run.mode))
        (and_left (is_removable known row) (is_sent known row) ready)))

    -- a row that can be deleted is left, and the run is no refresh
    left_there : is_delete_ready known row ≡ true → (is_left known row && not (is_refresh known.run.mode)) ≡ true
    left_there ready =
        and_left (is_left known row && not (is_refresh known.run.mode)) (is_target known row)
        (and_left (is_left known row && not (is_refresh known.run.mode) && is_target known row)
        (is_over known || list_any (takes_along known row) known.decided) (doomed ready))

    deleted_kept : (merged : Merged) → (is_refresh known.run.mode ≡ false → KeepsRows known merged)
        → is_delete_ready known row ≡ true → KeepsRows known merged × (is_left known row ≡ true)
    deleted_kept merged keeps ready = (
      keeps (not-true (is_refresh known.run.mode) (and_right (is_left known row) (not (is_refresh known.run.mode)) (left_there ready))),
      and_left (is_left known row) (not (is_refresh known.run.mode)) (left_there ready),
    )

  -- ---- goals

  module _ (recorded : RecordedAreDecided known) where
    provider_decided : (provider : Option ℕ) → none_or (is_recorded known) provider ≡ true → none_or (is_decided known) provider ≡ true
    provider_decided None h = refl
    provider_decided (Some provider) h = recorded provider h

    -- the provider of a goal that is placed is recorded
    placed_decided : (number : ℕ) (goal : Goal) (one : Decided) → is_placed known number goal one ≡ true
        → none_or (is_decided known) goal.provider ≡ true
    placed_decided number goal one placed =
        provider_decided goal.provider
        (and_right (none_or (is_recorded_urn known) goal.parent) (none_or (is_recorded known) goal.provider)
        (and_left (none_or (is_recorded_urn known) goal.parent && none_or (is_recorded known) goal.provider)
        (list_all (is_recorded_urn known) (further_urns goal))
        (and_right (not (is_refused one.decision) && not (is_recorded known number)) (references_recorded known goal)
        (and_left (not (is_refused one.decision) && not (is_recorded known number) && references_recorded known goal)
        (is_preview known.run.mode || urn_is_free known goal one) placed))))

    decided_if : (number : ℕ) (test : Goal → Decided → Bool)
        → ((goal : Goal) (one : Decided) → test goal one ≡ true → is_placed known number goal one ≡ true)
        → for_decided known number test ≡ true → is_provider_decided known number ≡ true
    decided_if number test places passes =
        let there = passing (λ goal. some_passes (test goal) (decided_goal known number)) (goal_at known number) passes in
        let decided = passing (test there.0) (decided_goal known number) there.2 in
        ap (λ (o : Option Goal). none_or (λ goal. none_or (is_decided known) goal.provider) o) there.1
        ∙ placed_decided number there.0 decided.0 (places there.0 decided.0 decided.2)

    sent : (about : Op) (number : ℕ) → for_decided known number (sends_goal known number about) ≡ true → is_provider_decided known number ≡ true
    sent about number =
        decided_if number (sends_goal known number about)
        (λ goal one sends. and_left (is_placed known number goal one) (some_passes (same_op about) (op_of_goal known number goal one))
        (and_left (is_placed known number goal one && some_passes (same_op about) (op_of_goal known number goal one)) (way_is_free known one) sends))

    kept : (number : ℕ) → for_decided known number (keeps_goal known number) ≡ true → is_provider_decided known number ≡ true
    kept number =
        decided_if number (keeps_goal known number)
        (λ goal one keeps. and_left (is_placed known number goal one) (is_none (op_of_goal known number goal one))
        (and_left (is_placed known number goal one && is_none (op_of_goal known number goal one)) (provider_stands known number goal) keeps))

pub deletes_kept : DeletesKept
deletes_kept known merged (op.Delete (subject.Row row)) lane keeps ready =
    deleted_kept known row merged keeps (asked_of known (op.Delete (subject.Row row)) lane ready)
deletes_kept known merged (op.Delete (subject.Goal goal)) lane keeps ready = tt
deletes_kept known merged (op.Delete (subject.Pending at)) lane keeps ready = tt
deletes_kept known merged (op.CheckConfig about) lane keeps ready = tt
deletes_kept known merged (op.Configure provider) lane keeps ready = tt
deletes_kept known merged (op.Check about) lane keeps ready = tt
deletes_kept known merged (op.Diff about) lane keeps ready = tt
deletes_kept known merged (op.Create about) lane keeps ready = tt
deletes_kept known merged (op.Update about) lane keeps ready = tt
deletes_kept known merged (op.Read about) lane keeps ready = tt
deletes_kept known merged (op.Invoke n) lane keeps ready = tt

pub sends_decided : SendsDecided
sends_decided known (op.Create (subject.Goal number)) lane recorded ready =
    sent known recorded (op.Create (subject.Goal number)) number (asked_of known (op.Create (subject.Goal number)) lane ready)
sends_decided known (op.Create (subject.Row row)) lane recorded ready = refl
sends_decided known (op.Create (subject.Pending at)) lane recorded ready = refl
sends_decided known (op.Update (subject.Goal number)) lane recorded ready =
    sent known recorded (op.Update (subject.Goal number)) number (asked_of known (op.Update (subject.Goal number)) lane ready)
sends_decided known (op.Update (subject.Row row)) lane recorded ready = refl
sends_decided known (op.Update (subject.Pending at)) lane recorded ready = refl
sends_decided known (op.Read (subject.Goal number)) lane recorded ready =
    sent known recorded (op.Read (subject.Goal number)) number (asked_of known (op.Read (subject.Goal number)) lane ready)
sends_decided known (op.Read (subject.Row row)) lane recorded ready = refl
sends_decided known (op.Read (subject.Pending at)) lane recorded ready = refl
sends_decided known (op.CheckConfig about) lane recorded ready = refl
sends_decided known (op.Configure provider) lane recorded ready = refl
sends_decided known (op.Check about) lane recorded ready = refl
sends_decided known (op.Diff about) lane recorded ready = refl
sends_decided known (op.Delete about) lane recorded ready = refl
sends_decided known (op.Invoke n) lane recorded ready = refl

pub keeps_decided : KeepsDecided
keeps_decided known number recorded ready = kept known recorded number ready
