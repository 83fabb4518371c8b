-- A row goes only once the later rows that refer to it are gone.
use Rattle.std.proofs.Common.{◌≡◌, ℕ, ◌==◌, Bool, true, false, ◌&&◌, ◌||◌, cond, List, ◌∷◌, length, Option, Some, None, refl, sym, ◌∙◌, ap, subst, arith, find, nat_lt, []}
use Rattle.std.specs.List.{cons_option, list_any}
use Rattle.std.proofs.Math.Bool.{or-true}
use Rattle.pl_lemmas.proofs.Numbers.{equal_numbers, below_length, range_has}
use Rattle.pl_state.specs.Chain.{refers_to}
use Rattle.pl_events.specs.declared.event.Event.{Event}
use Rattle.pl_events.specs.declared.event.What.{What}
use Rattle.pl_events.specs.declared.event.What.TheVariants.{Answered, Begun, Dropped}
use Rattle.pl_events.specs.declared.operation.Op.{Op}
use Rattle.pl_events.specs.declared.operation.Op.TheVariants as op
use Rattle.pl_events.specs.declared.operation.Subject.TheVariants as subject
use Rattle.pl_events.specs.declared.reply.Reply.{Reply}
use Rattle.pl_model.specs.declared.errand.Errand.{Errand}
use Rattle.pl_model.specs.declared.fixed.Fixed.{Fixed}
use Rattle.pl_model.specs.declared.work.Work.TheVariants.{Drop as to_drop}
use Rattle.pl_model.specs.Run.{rows_of}
use Rattle.pl_model.specs.Due.{is_due, is_due_on, is_removable}
use Rattle.pl_model.specs.History.{known_of}
use Rattle.pl_model.specs.Known.{Known}
use Rattle.pl_model.specs.Legal.{IsOrderly, MayHappen}
use Rattle.pl_lemmas.specs.Words.{has_number, only_if}
use Rattle.pl_model.specs.Recording.{is_removed, removed_by, removed_of, row_of_delete}
use Rattle.pl_model.specs.Rows.{has_dependents, is_left, is_taken_out, is_taken_over}
use Rattle.pl_model.specs.Tickets.{begun_of, errand_at, same_op, was_begun}
use Rattle.pl_model_stays.proofs.Lists.Growing.{run_of}
use Rattle.pl_model_stays.proofs.Operations.Once.{equal_ops, left_parts}
use Rattle.pl_model_stays.proofs.Work.Listing.{removable-parts, dropped-removable}
use Rattle.pl_model_laws.proofs.Rows.Removing.{deleted-removable}
use Rattle.pl_model_laws.proofs.Rows.TakenOut.{left-before}

-- what is found and passes a second test shows that some pass it
found_passes : {X : Type 0} (test other : X → Bool) (xs : List X) (x : X) → find test xs ≡ Some x
    → other x ≡ true → list_any other xs ≡ true
found_passes test other [] x h passes = absurd (let e : None ≡ Some x = h in cc)
found_passes {X = X} test other (first ∷ xs) x h passes = by (test first) (found_passes test other xs x) h
  where
    by : (b : Bool) → (find test xs ≡ Some x → other x ≡ true → list_any other xs ≡ true)
        → cond b (Some first) (find test xs) ≡ Some x → (other first || list_any other xs) ≡ true
    by true rest h =
        let e : Some first ≡ Some x = h in
        let same : first ≡ x = cc in
        ap (λ (one : X). other one || list_any other xs) same ∙ ap (λ (b : Bool). b || list_any other xs) passes
    by false rest h = ap (λ (b : Bool). other first || b) (rest h passes) ∙ or-true (other first)

-- ---- what has a later row that is left

module _ (known : Known) (later earlier : ℕ) (refers : refers_to (rows_of known.run) later earlier ≡ true)
    (left : is_left known later ≡ true) where
  -- it is left among the rows, and refers to this one
  pub depended : has_dependents known earlier ≡ true
  depended =
      let below : nat_lt later (length (rows_of known.run)) ≡ true =
      (left_parts (nat_lt later (length (rows_of known.run))) (is_taken_out known later) (is_taken_over known later) left).0 in
      range_has (λ (row : ℕ). refers_to (rows_of known.run) row earlier && is_left known row) 0
      (length (rows_of known.run)) later (omega arith) (below_length later (length (rows_of known.run)) below)
      (ap (λ (b : Bool). b && is_left known later) refers ∙ left)

  -- so this one can neither be deleted nor dropped
  not_removable : is_removable known earlier ≡ true → ⊥
  not_removable h =
      let e : true ≡ false = sym depended ∙ (removable-parts known earlier h).free in
      cc

-- ---- the laws

module _ (run : Fixed) (later earlier : ℕ) (refers : refers_to (rows_of run) later earlier ≡ true) where
  abbrev deletes : Op
  deletes = op.Delete (subject.Row earlier)

  -- the reference stands in what each history tells
  refers_in : (past : List Event) → refers_to (rows_of (known_of run past).run) later earlier ≡ true
  refers_in past = subst (λ (fixed : Fixed). refers_to (rows_of fixed) later earlier ≡ true) (sym (run_of run past)) refers

  -- an operation that is due is not the deletion
  began : (ticket seat lane : ℕ) (about : Op) (past : List Event) → is_left (known_of run past) later ≡ true
      → is_due_on (known_of run past) about lane ≡ true → was_begun past deletes ≡ false
      → was_begun (record { seat = seat; what = Begun ticket lane about } ∷ past) deletes ≡ false
  began ticket seat lane about past left due never = by (same_op about deletes) refl
    where
      by : (b : Bool) → same_op about deletes ≡ b → (same_op about deletes || was_begun past deletes) ≡ false
      by true is = absurd (not_removable (known_of run past) later earlier (refers_in past) left
          (deleted-removable (known_of run past) earlier lane
          (subst (λ (it : Op). is_due_on (known_of run past) it lane ≡ true) (equal_ops about deletes is) due)))
      by false is = ap (λ (b : Bool). b || was_begun past deletes) is ∙ never

  -- no event begins the deletion
  begun_step : (seat : ℕ) (what : What) (past : List Event) → is_left (known_of run past) later ≡ true
      → MayHappen (known_of run past) seat what → was_begun past deletes ≡ false
      → was_begun (record { seat = seat; what = what } ∷ past) deletes ≡ false
  begun_step seat (Begun ticket lane about) past left may never = began ticket seat lane about past left may.due never
  begun_step seat _ past left may never = never

  -- no deletion is begun while a later row that refers to the row is left
  pub deleted_last : (history : List Event) → IsOrderly run history → is_left (known_of run history) later ≡ true
      → was_begun history deletes ≡ false
  deleted_last [] orderly left = refl
  deleted_last (event ∷ past) orderly left =
      let before : is_left (known_of run past) later ≡ true = left-before run event past orderly later left in
      begun_step event.seat event.what past before orderly.1 (deleted_last past orderly.0 before)

  -- an operation other than the deletion takes out another row, or none
  removed_op : (about : Op) (b : Bool) (rows : List ℕ) → same_op about deletes ≡ false → has_number rows earlier ≡ false
      → has_number (cons_option (only_if b (row_of_delete about)) rows) earlier ≡ false
  removed_op about false rows apart stays = stays
  removed_op (op.Delete (subject.Row row)) true rows apart stays = ap (λ (b : Bool). b || has_number rows earlier) apart ∙ stays
  removed_op (op.Delete (subject.Goal goal)) true rows apart stays = stays
  removed_op (op.Delete (subject.Pending at)) true rows apart stays = stays
  removed_op (op.CheckConfig about) true rows apart stays = stays
  removed_op (op.Configure provider) true rows apart stays = stays
  removed_op (op.Check about) true rows apart stays = stays
  removed_op (op.Diff about) true rows apart stays = stays
  removed_op (op.Create about) true rows apart stays = stays
  removed_op (op.Update about) true rows apart stays = stays
  removed_op (op.Read about) true rows apart stays = stays
  removed_op (op.Invoke n) true rows apart stays = stays

  -- a reply takes the row out only where its deletion was begun
  replied : (seat ticket : ℕ) (reply : Reply) (past : List Event) → was_begun past deletes ≡ false
      → has_number (removed_of past) earlier ≡ false
      → has_number (removed_of (record { seat = seat; what = Answered ticket reply } ∷ past)) earlier ≡ false
  replied seat ticket reply past never stays = by (errand_at past ticket) refl
    where
      apart : (errand : Errand) → errand_at past ticket ≡ Some errand → (b : Bool) → same_op errand.op deletes ≡ b → b ≡ false
      apart errand is true same =
          let begun : was_begun past deletes ≡ true =
          found_passes (λ (one : Errand). one.ticket == ticket) (λ (one : Errand). same_op one.op deletes)
          (begun_of past) errand is same in
          sym begun ∙ never
      apart errand is false same = refl

      by : (o : Option Errand) → errand_at past ticket ≡ o
          → has_number (cons_option (removed_by past (Answered ticket reply)) (removed_of past)) earlier ≡ false
      by None is = rw is stays
      by (Some errand) is =
          rw is (removed_op errand.op (is_removed reply) (removed_of past)
          (apart errand is (same_op errand.op deletes) refl) stays)

  -- a row that is dropped is another one
  dropped : (seat row : ℕ) (past : List Event) → is_left (known_of run past) later ≡ true
      → is_due (known_of run past) (to_drop row) ≡ true → has_number (removed_of past) earlier ≡ false
      → has_number (removed_of (record { seat = seat; what = Dropped row } ∷ past)) earlier ≡ false
  dropped seat row past left due stays = by (row == earlier) refl
    where
      by : (b : Bool) → (row == earlier) ≡ b → ((row == earlier) || has_number (removed_of past) earlier) ≡ false
      by true is = absurd (not_removable (known_of run past) later earlier (refers_in past) left
          (dropped-removable (known_of run past) earlier
          (subst (λ (number : ℕ). is_due (known_of run past) (to_drop number) ≡ true) (equal_numbers row earlier is) due)))
      by false is = ap (λ (b : Bool). b || has_number (removed_of past) earlier) is ∙ stays

  -- no event takes the row out
  gone_step : (seat : ℕ) (what : What) (past : List Event) → is_left (known_of run past) later ≡ true
      → MayHappen (known_of run past) seat what → was_begun past deletes ≡ false
      → has_number (removed_of past) earlier ≡ false
      → has_number (removed_of (record { seat = seat; what = what } ∷ past)) earlier ≡ false
  gone_step seat (Answered ticket reply) past left may never stays = replied seat ticket reply past never stays
  gone_step seat (Dropped row) past left may never stays = dropped seat row past left may stays
  gone_step seat _ past left may never stays = stays

  -- no row is taken out while a later row that refers to it is left
  pub gone_last : (history : List Event) → IsOrderly run history → is_left (known_of run history) later ≡ true
      → has_number (removed_of history) earlier ≡ false
  gone_last [] orderly left = refl
  gone_last (event ∷ past) orderly left =
      let before : is_left (known_of run past) later ≡ true = left-before run event past orderly later left in
      gone_step event.seat event.what past before orderly.1 (deleted_last past orderly.0 before) (gone_last past orderly.0 before)
