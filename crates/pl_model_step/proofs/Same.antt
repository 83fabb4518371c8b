-- The plain events of a summary are read as its history is.
use Rattle.std.proofs.Common.{◌≡◌, ℕ, ◌==◌, Bool, true, false, ◌||◌, List, [], ◌∷◌, refl, sym, ◌∙◌, ap}
use Rattle.std.specs.List.{cons_option}
use Rattle.std.proofs.lemmas.Bool.{or_right}
use Rattle.pl_events.specs.declared.event.Event.{Event}
use Rattle.pl_events.specs.declared.event.What.{What}
use Rattle.pl_events.specs.declared.event.What.TheVariants.{Answered}
use Rattle.pl_events.specs.declared.reply.Reply.{Reply}
use Rattle.pl_events.specs.declared.reply.Reply.TheVariants.{Configured}
use Rattle.pl_model.specs.declared.fixed.Fixed.{Fixed}
use Rattle.pl_lemmas.specs.Words.{has_number}
use Rattle.pl_model.specs.Asked.{ask_of}
use Rattle.pl_model.specs.Due.{is_clear_ready, is_delete_ready, is_drop_ready, is_keep_ready, is_post_due, is_wanted_op}
use Rattle.pl_model.specs.Entries.{old_row}
use Rattle.pl_model.specs.History.{known_of}
use Rattle.pl_model.specs.Known.{Known, is_over, is_recorded}
use Rattle.pl_model.specs.Requests.{fate_of}
use Rattle.pl_model.specs.Rows.{is_doomed, is_left, is_marked, is_sent}
use Rattle.pl_model.specs.State.{pending_for, was_answered}
use Rattle.pl_model.specs.Step.{Summary, answered_in, configured_by, configured_in, known_in, plain_history, summary_of, tickets_by}
use Rattle.pl_model_step.specs.Reads.{KnowsSame, PlainReadsSame, ReadsSame, SummaryKnowsSame}
use Rattle.pl_model_step.proofs.Alike.{doomed, left, marked, old, opening, over, recorded, same_fate, same_over, sent}
use Rattle.pl_model_step.proofs.Lanes.{SameTickets, begun, coming, count, errands, free, free_lane, lanes, open_ones, opens, stands}
use Rattle.pl_model_step.proofs.Plain.{plain_begun, plain_cleared, plain_posted, plain_stop}
use Rattle.pl_model_step.proofs.PlainTickets.{plain_answered, plain_closed, plain_configured, plain_lost}
use Rattle.pl_model_step.proofs.Reading.{tells_answered, tells_closed, tells_configured, tells_lost}
use Rattle.pl_model_step.proofs.Ready.{asking, clear_ready, delete_ready, drop_ready, keep_ready, post_due, wanted}
use Rattle.pl_model_step.proofs.Steps.{place, placed, plain_alike}
use Rattle.pl_model_step.proofs.Whole.{AlikeMost}

or_more : (a b c : Bool) → (b ≡ true → c ≡ true) → (a || b) ≡ true → (a || c) ≡ true
or_more true b c h e = refl
or_more false b c h e = h e

-- a ticket that is answered by the word that its lane is configured is answered
configured_more : (ticket closed : ℕ) (reply : Reply) (words answers : List ℕ)
    → (has_number words ticket ≡ true → has_number answers ticket ≡ true)
    → has_number (cons_option (configured_by closed reply) words) ticket ≡ true → has_number (closed ∷ answers) ticket ≡ true
configured_more ticket closed Configured words answers h e =
    or_more (closed == ticket) (has_number words ticket) (has_number answers ticket) h e
configured_more ticket closed _ words answers h e = or_right (closed == ticket) (has_number answers ticket) (h e)

configured_answered : (history : List Event) (ticket : ℕ)
    → has_number (tickets_by configured_in history) ticket ≡ true → has_number (tickets_by answered_in history) ticket ≡ true
configured_answered [] ticket e = e
configured_answered (event ∷ past) ticket e = by event.what (configured_answered past ticket) e
  where
    by : (what : What) → (has_number (tickets_by configured_in past) ticket ≡ true → has_number (tickets_by answered_in past) ticket ≡ true)
        → has_number (cons_option (configured_in what) (tickets_by configured_in past)) ticket ≡ true
        → has_number (cons_option (answered_in what) (tickets_by answered_in past)) ticket ≡ true
    by (Answered closed reply) h e =
        configured_more ticket closed reply (tickets_by configured_in past) (tickets_by answered_in past) h e
    by _ h e = h e

either_answered : (answered configured : Bool) → (configured ≡ true → answered ≡ true) → answered ≡ (configured || answered)
either_answered answered true h = h refl
either_answered answered false h = refl

-- lost or answered, in either order
either_way : (answered lost configured : Bool) → (configured ≡ true → answered ≡ true)
    → (answered || lost) ≡ (lost || (configured || answered))
either_way true true configured h = refl
either_way true false true h = refl
either_way true false false h = refl
either_way false true configured h = refl
either_way false false false h = refl
either_way false false true h = h refl

module _ (run : Fixed) (history : List Event) where
  abbrev summary : Summary
  summary = summary_of run history

  abbrev plain : List Event
  plain = plain_history summary

  pub same_tickets : SameTickets history plain
  same_tickets = record {
    begun = sym (plain_begun summary);
    closed = λ ticket.
        tells_closed history ticket
        ∙ either_way (has_number summary.answered ticket) (has_number summary.lost ticket) (has_number summary.configured ticket)
        (configured_answered history ticket)
        ∙ sym (plain_closed summary ticket);
    lost = λ ticket. tells_lost history ticket ∙ sym (plain_lost summary ticket);
    configured = λ errand. tells_configured history errand ∙ sym (plain_configured summary errand);
  }

  most : AlikeMost history plain
  most = record {
    core = plain_alike run history;
    tickets = same_tickets;
    cleared = sym (plain_cleared summary);
    posted = sym (plain_posted summary);
  }

  moved : {X : Type 0} (reads : Known → X) → reads (placed run history) ≡ reads (over (placed run history) plain)
      → reads (known_of run history) ≡ reads (known_in run summary)
  moved reads alike = ap reads (place run history) ∙ alike

  abbrev here : Known
  here = placed run history

  answered_same : (ticket : ℕ) → was_answered history ticket ≡ was_answered plain ticket
  answered_same ticket =
      tells_answered history ticket
      ∙ either_answered (has_number summary.answered ticket) (has_number summary.configured ticket) (configured_answered history ticket)
      ∙ sym (plain_answered summary ticket)

  reads_same : ReadsSame history plain
  reads_same = record {
    errands = errands history plain same_tickets;
    tickets = opens history plain same_tickets;
    out = open_ones history plain same_tickets;
    answered = λ i ticket. answered_same ticket i;
    begun = begun history plain same_tickets;
    count = count history plain same_tickets;
    lanes = lanes history plain same_tickets;
    free = free history plain same_tickets;
    first_free = free_lane history plain same_tickets;
    coming = coming history plain same_tickets;
    configured = stands history plain same_tickets;
    recorded = most.core.recorded;
    fresh = λ i goal. most.core.fresh goal i;
    removed = most.core.removed;
    cleared = most.cleared;
    posted = most.posted;
    ended = most.core.host;
    stopped = sym (plain_stop summary);
  }

  knows_same : KnowsSame (known_of run history) (known_in run summary)
  knows_same = record {
    fates = moved fate_of (λ i request. same_fate here plain most.core request i);
    recorded = moved is_recorded (recorded here plain most.core);
    over = moved is_over (same_over here plain most.core);
    left = moved is_left (left here plain most.core);
    marked = moved is_marked (marked here plain most.core);
    doomed = moved is_doomed (doomed here plain most.core);
    sent = moved is_sent (sent here plain most.core);
    old = moved old_row (old here plain most.core);
    posts = moved is_post_due (post_due here plain most);
    keeps = moved is_keep_ready (keep_ready here plain most);
    clears = moved is_clear_ready (clear_ready here plain most);
    drops = moved is_drop_ready (drop_ready here plain most);
    deletes = moved is_delete_ready (delete_ready here plain most);
    wanted = moved is_wanted_op (wanted here plain most);
    asks = moved ask_of (λ i about. asking here plain most about i);
    opens = moved pending_for (λ i about. opening here plain most.core about i);
  }

pub plain-reads_same : PlainReadsSame
plain-reads_same = reads_same

pub summary-knows_same : SummaryKnowsSame
summary-knows_same = knows_same
