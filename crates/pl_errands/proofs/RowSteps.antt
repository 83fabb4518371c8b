-- The rows with one operation more, one answered and one lost.
use Rattle.std.proofs.Common.{◌≡◌, ℕ, Bool, true, false, ◌==◌, ◌&&◌, ◌||◌, List, [], ◌∷◌, ◌++◌, length, map, reverse, Option, Some, option_map, refl, sym, ap, ◌∙◌}
use Rattle.std.proofs.lemmas.List.{reverse-append}
use Rattle.std.specs.List.{cons_option, filter_map, find, slice_get, slice_set}
use Rattle.std.proofs.Math.Bool.{or-false, and-false, and-true}
use Rattle.pl_lemmas.specs.Words.{has_number, some_passes}
use Rattle.pl_events.specs.declared.event.What.TheVariants.{Answered}
use Rattle.pl_events.specs.declared.reply.Reply.{Reply}
use Rattle.pl_events.specs.declared.reply.Reply.TheVariants as reply
use Rattle.pl_model.specs.declared.errand.Closed.{Closed}
use Rattle.pl_model.specs.declared.errand.Errand.{Errand}
use Rattle.pl_model.specs.Tickets.{closed_by, errand_at}
use Rattle.pl_model.specs.Step.{configured_by}
use Rattle.pl_errands.specs.declared.row.Replied.{Replied}
use Rattle.pl_errands.specs.declared.row.Row.{Row}
use Rattle.pl_errands.specs.declared.row.Standing.{Standing}
use Rattle.pl_errands.specs.declared.row.Standing.TheVariants as standing
use Rattle.pl_errands.specs.Tickets.{events_of, with_answer, with_loss}
use Rattle.pl_errands.specs.Rows.{AgreeRows, AreNumbered, configured_of, is_answered, is_configured, is_lost, standing_of, tickets_by}
use Rattle.pl_errands.proofs.Events.{begun_read}
use Rattle.pl_errands.proofs.Lists.{each-push, each-set, find-map, map-reversed, map-set_same, passes-push, passes-set}
use Rattle.pl_errands.proofs.Places.{find_numbered}

reverse-push : {X : Type 0} (xs : List X) (y : X) → reverse (xs ++ y ∷ []) ≡ y ∷ reverse xs
reverse-push xs y = reverse-append xs (y ∷ [])

-- the errand of a ticket is that of the row at its place
pub errand_at_row : (rows : List Row) (replies : List Replied) (lost : List ℕ) (ticket : ℕ) → AreNumbered rows
    → errand_at (events_of (tickets_by rows replies lost)) ticket ≡ option_map (λ row. row.errand) (slice_get rows ticket)
errand_at_row rows replies lost ticket numbered =
    ap (find (λ errand. errand.ticket == ticket)) (begun_read (tickets_by rows replies lost))
    ∙ find-map (λ errand. errand.ticket == ticket) (λ row. row.errand) (reverse rows)
    ∙ ap (option_map (λ row. row.errand)) (find_numbered (λ row. row.errand.ticket) rows ticket numbered)

-- ---- begun

module _ (rows : List Row) (replies : List Replied) (lost : List ℕ) (errand : Errand) where
  abbrev begun_row : Row
  begun_row = record { errand = errand; standing = standing.Open }

  pub begun_numbered : AreNumbered rows → errand.ticket ≡ length rows → AreNumbered (rows ++ begun_row ∷ [])
  begun_numbered numbered next = each-push rows begun_row (λ place row. row.errand.ticket ≡ place) numbered next

  pub begun_rows : AgreeRows rows (tickets_by rows replies lost)
      → AgreeRows (rows ++ begun_row ∷ []) (tickets_by (rows ++ begun_row ∷ []) replies lost)
  begun_rows agree = record {
    answered = λ number. agree.answered number ∙ sym (passes-push (λ row. is_answered row.standing) rows begun_row number refl);
    lost = λ number. agree.lost number ∙ sym (passes-push (λ row. is_lost row.standing) rows begun_row number refl);
    configured = λ number. agree.configured number ∙ sym (passes-push (λ row. is_configured row.standing) rows begun_row number refl);
  }

-- ---- closed

module _ (rows : List Row) (ticket : ℕ) (errand : Errand) where
  abbrev open_row : Row
  open_row = record { errand = errand; standing = standing.Open }

  abbrev closed_row : Standing → Row
  closed_row became = record { errand = errand; standing = became }

  pub closed_numbered : (became : Standing) → AreNumbered rows → slice_get rows ticket ≡ Some open_row
      → AreNumbered (slice_set rows ticket (closed_row became))
  closed_numbered became numbered was =
      each-set rows ticket (closed_row became) (λ place row. row.errand.ticket ≡ place) numbered (numbered ticket open_row was)

  passes_same : (test : Standing → Bool) (became : Standing) → slice_get rows ticket ≡ Some open_row
      → test standing.Open ≡ false → test became ≡ false → (number : ℕ)
      → some_passes (λ row. test row.standing) (slice_get (slice_set rows ticket (closed_row became)) number)
      ≡ some_passes (λ row. test row.standing) (slice_get rows number)
  passes_same test became was fails none number =
      passes-set (λ row. test row.standing) false rows ticket open_row (closed_row became) was (none ∙ sym fails) number
      ∙ ap (λ (b : Bool). b || some_passes (λ row. test row.standing) (slice_get rows number)) (and-false (ticket == number))

  passes_more : (test : Standing → Bool) (became : Standing) → slice_get rows ticket ≡ Some open_row
      → test became ≡ true → (number : ℕ)
      → some_passes (λ row. test row.standing) (slice_get (slice_set rows ticket (closed_row became)) number)
      ≡ ((ticket == number) || some_passes (λ row. test row.standing) (slice_get rows number))
  passes_more test became was holds number =
      passes-set (λ row. test row.standing) true rows ticket open_row (closed_row became) was holds number
      ∙ ap (λ (b : Bool). b || some_passes (λ row. test row.standing) (slice_get rows number)) (and-true (ticket == number))

  same_begun : (became : Standing) → slice_get rows ticket ≡ Some open_row
      → map (λ row. row.errand) (slice_set rows ticket (closed_row became)) ≡ map (λ row. row.errand) rows
  same_begun became was = map-set_same (λ row. row.errand) rows ticket open_row (closed_row became) was refl

same_errands : (rows others : List Row) → map (λ row. row.errand) others ≡ map (λ row. row.errand) rows
    → map (λ row. row.errand) (reverse others) ≡ map (λ row. row.errand) (reverse rows)
same_errands rows others same =
    map-reversed (λ row. row.errand) others ∙ ap reverse same ∙ sym (map-reversed (λ row. row.errand) rows)

-- ---- answered

module _ (rows : List Row) (replies : List Replied) (lost : List ℕ) (ticket : ℕ) (errand : Errand) (told : Reply)
    (was : slice_get rows ticket ≡ Some (open_row rows ticket errand)) where
  abbrev replied : Replied
  replied = record { ticket = ticket; closed = record { op = errand.op; reply = told } }

  abbrev rows_answered : List Row
  rows_answered = slice_set rows ticket (closed_row rows ticket errand (standing_of told))

  answered_closed : AreNumbered rows → closed_by (events_of (tickets_by rows replies lost)) (Answered ticket told)
      ≡ Some (record { op = errand.op; reply = told })
  answered_closed numbered =
      ap (λ (o : Option Errand). option_map (λ op. record { op = op; reply = told }) (option_map (λ one. one.op) o))
      (errand_at_row rows replies lost ticket numbered ∙ ap (option_map (λ row. row.errand)) was)

  pub answered_tickets : AreNumbered rows → tickets_by rows_answered (replies ++ replied ∷ []) lost
      ≡ with_answer ticket told (tickets_by rows replies lost)
  answered_tickets numbered =
      let same = same_errands rows rows_answered (same_begun rows ticket errand (standing_of told) was) in
      let closed = answered_closed numbered in
      λ i. record {
        begun = same i;
        answered = map (λ one. one.ticket) (reverse-push replies replied i);
        lost = reverse lost;
        configured = filter_map configured_of (reverse-push replies replied i);
        answers = (ap (map (λ one. one.closed)) (reverse-push replies replied)
            ∙ ap (λ (o : Option Closed). cons_option o (map (λ one. one.closed) (reverse replies))) (sym closed)) i;
      }

  is_lost_answered : (reply : Reply) → is_lost (standing_of reply) ≡ false
  is_lost_answered reply.Configured = refl
  is_lost_answered _ = refl

  is_answered_answered : (reply : Reply) → is_answered (standing_of reply) ≡ true
  is_answered_answered reply.Configured = refl
  is_answered_answered _ = refl

  configured_number : (reply : Reply) (numbers : List ℕ) (number : ℕ) (old : Bool) → has_number numbers number ≡ old
      → has_number (cons_option (configured_by ticket reply) numbers) number
      ≡ (((ticket == number) && is_configured (standing_of reply)) || old)
  configured_number reply.Configured numbers number old e =
      ap (λ (b : Bool). (ticket == number) || b) e ∙ ap (λ (b : Bool). b || old) (sym (and-true (ticket == number)))
  configured_number _ numbers number old e = e ∙ ap (λ (b : Bool). b || old) (sym (and-false (ticket == number)))

  pub answered_rows : AgreeRows rows (tickets_by rows replies lost)
      → AgreeRows rows_answered (with_answer ticket told (tickets_by rows replies lost))
  answered_rows agree = record {
    answered = λ number.
        ap (λ (b : Bool). (ticket == number) || b) (agree.answered number)
        ∙ sym (passes_more rows ticket errand is_answered (standing_of told) was (is_answered_answered told) number);
    lost = λ number. agree.lost number
        ∙ sym (passes_same rows ticket errand is_lost (standing_of told) was refl (is_lost_answered told) number);
    configured = λ number.
        configured_number told (tickets_by rows replies lost).configured number _ (agree.configured number)
        ∙ sym (passes-set (λ row. is_configured row.standing) (is_configured (standing_of told)) rows ticket
        (open_row rows ticket errand) (closed_row rows ticket errand (standing_of told)) was (sym (or-false (is_configured (standing_of told)))) number);
  }

-- ---- lost

module _ (rows : List Row) (replies : List Replied) (lost : List ℕ) (ticket : ℕ) (errand : Errand)
    (was : slice_get rows ticket ≡ Some (open_row rows ticket errand)) where
  abbrev rows_lost : List Row
  rows_lost = slice_set rows ticket (closed_row rows ticket errand standing.Lost)

  pub lost_tickets : tickets_by rows_lost replies (lost ++ ticket ∷ []) ≡ with_loss ticket (tickets_by rows replies lost)
  lost_tickets =
      let same = same_errands rows rows_lost (same_begun rows ticket errand standing.Lost was) in
      λ i. record {
        begun = same i;
        answered = map (λ one. one.ticket) (reverse replies);
        lost = reverse-push lost ticket i;
        configured = filter_map configured_of (reverse replies);
        answers = map (λ one. one.closed) (reverse replies);
      }

  pub lost_rows : AgreeRows rows (tickets_by rows replies lost) → AgreeRows rows_lost (with_loss ticket (tickets_by rows replies lost))
  lost_rows agree = record {
    answered = λ number. agree.answered number ∙ sym (passes_same rows ticket errand is_answered standing.Lost was refl refl number);
    lost = λ number.
        ap (λ (b : Bool). (ticket == number) || b) (agree.lost number)
        ∙ sym (passes_more rows ticket errand is_lost standing.Lost was refl number);
    configured = λ number. agree.configured number
        ∙ sym (passes_same rows ticket errand is_configured standing.Lost was refl refl number);
  }
