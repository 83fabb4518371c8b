-- The row that an answered deletion removes is one of the state at the start.
use Rattle.std.proofs.Common.{◌≡◌, ℕ, ◌<◌, Bool, true, false, not, ◌||◌, List, [], ◌∷◌, length, None, Some, refl, ◌∙◌, inl, inr, ◌⊎◌, ap, subst}
use Rattle.std.proofs.lemmas.Option.{same_Some}
use Rattle.pl_lemmas.proofs.Options.{mapped_some, only_some, then_some}
use Rattle.pl_lemmas.proofs.Truth.{and_left, and_right}
use Rattle.pl_events.specs.declared.event.Event.{Event}
use Rattle.pl_events.specs.declared.event.What.{What}
use Rattle.pl_events.specs.declared.event.What.TheVariants.{Answered, Begun}
use Rattle.pl_events.specs.declared.operation.Op.{Op}
use Rattle.pl_events.specs.declared.operation.Op.TheVariants as op
use Rattle.pl_events.specs.declared.operation.Subject.TheVariants as subject
use Rattle.pl_events.specs.declared.reply.Reply.{Reply}
use Rattle.pl_model.specs.declared.errand.Closed.{Closed}
use Rattle.pl_model.specs.declared.errand.Errand.{Errand}
use Rattle.pl_model.specs.declared.fixed.Fixed.{Fixed}
use Rattle.pl_model.specs.declared.work.Work.TheVariants.{Send as to_send}
use Rattle.pl_model.specs.Due.{is_delete_ready, is_due_on, is_lane_of, is_ready_on, is_removable, is_wanted_op, passes_limit}
use Rattle.pl_model.specs.History.{known_of}
use Rattle.pl_model.specs.Known.{Known, has_problem}
use Rattle.pl_model.specs.Legal.{IsOrderly, MayHappen}
use Rattle.pl_model.specs.Recording.{is_removed, removed_by, removed_by_reply, row_of_delete}
use Rattle.pl_model.specs.Rows.{is_sent}
use Rattle.pl_model.specs.Run.{rows_of}
use Rattle.pl_model.specs.Tickets.{closed_by, errand_at, op_at, same_op, was_begun}
use Rattle.pl_model_stays.proofs.Goals.Staying.{errand_sent, sent_begun}
use Rattle.pl_model_stays.proofs.Lists.Growing.{run_of}
use Rattle.pl_model_stays.proofs.Operations.Once.{equal_ops}
use Rattle.pl_model_stays.proofs.Work.Listing.{removable_low}

module _ (run : Fixed) (row : ℕ) where
  abbrev deletes : Op
  deletes = op.Delete (subject.Row row)

  due_within : (past : List Event) (lane : ℕ) → is_due_on (known_of run past) deletes lane ≡ true → row < length (rows_of run)
  due_within past lane due =
      subst (λ (fixed : Fixed). row < length (rows_of fixed)) (run_of run past) (removable_low known row removable)
    where
      known : Known
      known = known_of run past

      wanted : is_wanted_op known deletes ≡ true
      wanted =
          and_right (not (has_problem known)) _
          (and_left _ (is_lane_of known deletes lane)
          (and_left (is_ready_on known deletes lane) (not (passes_limit known (to_send deletes))) due))

      removable : is_removable known row ≡ true
      removable =
          and_left (is_removable known row) (is_sent known row)
          (and_right (not (was_begun known.history deletes)) (is_delete_ready known row) wanted)

  -- it is so when the deletion is begun, or it was begun before
  within_step : (past : List Event) (seat : ℕ) (what : What) → MayHappen (known_of run past) seat what
      → was_begun (record { seat = seat; what = what } ∷ past) deletes ≡ true
      → (row < length (rows_of run)) ⊎ (was_begun past deletes ≡ true)
  within_step past seat (Begun ticket lane about) may begun = by (same_op about deletes) refl begun
    where
      by : (b : Bool) → same_op about deletes ≡ b → (b || was_begun past deletes) ≡ true
          → (row < length (rows_of run)) ⊎ (was_begun past deletes ≡ true)
      by true is h = inl (due_within past lane
          (subst (λ (it : Op). is_due_on (known_of run past) it lane ≡ true) (equal_ops about deletes is) may.due))
      by false is h = inr h
  within_step past seat _ may begun = inr begun

  begun_within : (history : List Event) → IsOrderly run history → was_begun history deletes ≡ true → row < length (rows_of run)
  begun_within [] orderly begun = absurd (let e : false ≡ true = begun in cc)
  begun_within (event ∷ past) orderly begun =
      by (within_step past event.seat event.what orderly.1 begun) (begun_within past orderly.0)
    where
      by : (row < length (rows_of run)) ⊎ (was_begun past deletes ≡ true)
          → (was_begun past deletes ≡ true → row < length (rows_of run)) → row < length (rows_of run)
      by (inl low) before = low
      by (inr old) before = before old

-- what deletes a row is its deletion
delete_is : (about : Op) (row : ℕ) → row_of_delete about ≡ Some row → about ≡ op.Delete (subject.Row row)
delete_is (op.Delete (subject.Row own)) row h = ap (λ (n : ℕ). op.Delete (subject.Row n)) (same_Some own row h)
delete_is _ row h = absurd (let e : None ≡ Some row = h in cc)

-- an answer removes the row of its errand
answered_row : (past : List Event) (ticket : ℕ) (reply : Reply) (row : ℕ) → removed_by past (Answered ticket reply) ≡ Some row
    → (errand : Errand) × (errand_at past ticket ≡ Some errand) × (row_of_delete errand.op ≡ Some row)
answered_row past ticket reply row h =
    let closed = then_some removed_by_reply (closed_by past (Answered ticket reply)) row h in
    let about = mapped_some (λ (about : Op). record { op = about; reply = reply }) (op_at past ticket) closed.0 closed.1 in
    let errand = mapped_some (λ (errand : Errand). errand.op) (errand_at past ticket) about.0 about.1 in (
      errand.0,
      errand.1,
      ap (λ (it : Op). row_of_delete it) errand.2
          ∙ ap (λ (one : Closed). row_of_delete one.op) about.2
          ∙ only_some (is_removed closed.0.reply) (row_of_delete closed.0.op) row closed.2,
    )

pub removed_within : (run : Fixed) (past : List Event) (ticket : ℕ) (reply : Reply) (row : ℕ) → IsOrderly run past
    → removed_by past (Answered ticket reply) ≡ Some row → row < length (rows_of run)
removed_within run past ticket reply row orderly h =
    let found = answered_row past ticket reply row h in
    begun_within run row past orderly
    (subst (λ (about : Op). was_begun past about ≡ true) (delete_is found.0.op row found.2)
    (sent_begun past ticket found.0.op (errand_sent past ticket found.0 found.1)))
