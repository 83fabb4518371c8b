-- What may happen after a history may happen after another one with the same summary.
use Rattle.std.proofs.Common.{◌≡◌, ℕ, ◌==◌, ◌&&◌, List, sym, ◌∙◌, ap}
use Rattle.pl_lemmas.specs.Words.{some_passes}
use Rattle.pl_events.specs.Replies.{reply_fits}
use Rattle.pl_events.specs.declared.event.Event.{Event}
use Rattle.pl_events.specs.declared.event.Stop.{Stop}
use Rattle.pl_events.specs.declared.event.Stop.TheVariants.{StoreFault, StartFault, HostPipeFault, TooManyResources, MessageTooLong, NoMemory}
use Rattle.pl_events.specs.declared.event.What.{What}
use Rattle.pl_events.specs.declared.event.What.TheVariants.{Told, HostGone, Begun, Answered, Lost, Kept, Dropped, Cleared, Posted, Stopped}
use Rattle.pl_model.specs.declared.fixed.Fixed.{Fixed}
use Rattle.pl_model.specs.declared.work.Work.TheVariants.{Clear as to_clear, Drop as to_drop, Keep as to_keep}
use Rattle.pl_model.specs.Asked.{call_of}
use Rattle.pl_model.specs.Due.{due_work, has_open, is_due, is_due_on, is_post_due, over_limit}
use Rattle.pl_model.specs.History.{known_of}
use Rattle.pl_model.specs.Known.{Known, host_ended}
use Rattle.pl_model.specs.Legal.{MayBeTooMany, MayHappen, StopFits, fits_ticket, is_seats, may_be_next, needs_fresh}
use Rattle.pl_model.specs.Step.{summary_of}
use Rattle.pl_model.specs.Tickets.{next_ticket}
use Rattle.pl_events.specs.Closing.{has_stop}
use Rattle.pl_model_step.specs.Enough.{SameMayHappen}
use Rattle.pl_model_step.proofs.Alike.{ended}
use Rattle.pl_model_step.proofs.Enough.{most, moved, tickets, whole}
use Rattle.pl_model_step.proofs.Lanes.{errands, next, opens}
use Rattle.pl_model_step.proofs.Ready.{open_alike, post_due}
use Rattle.pl_model_step.proofs.Steps.{history_of, placed}
use Rattle.pl_model_step.proofs.Works.{due, due_on, due_works, over_works}

module _ (run : Fixed) (a b : List Event) (same : summary_of run a ≡ summary_of run b) where
  abbrev first : Known
  first = known_of run a

  abbrev second : Known
  second = known_of run b

  seats : is_seats first ≡ is_seats second
  seats = moved run a b same is_seats (λ i seat ticket.
      opens a b (tickets run a b same) i ticket
      && some_passes (λ errand. errand.seat == seat) (errands a b (tickets run a b same) i ticket))

  fitting : fits_ticket first ≡ fits_ticket second
  fitting = moved run a b same fits_ticket (λ i ticket reply.
      some_passes (λ errand. reply_fits (call_of errand.op) reply) (errands a b (tickets run a b same) i ticket))

  hosts : host_ended first ≡ host_ended second
  hosts = moved run a b same host_ended (ended (placed run a) b (most run a b same).core)

  nexts : next_ticket first.history ≡ next_ticket second.history
  nexts =
      ap next_ticket (history_of run a) ∙ next a b (tickets run a b same) ∙ sym (ap next_ticket (history_of run b))

  numbers : may_be_next first ≡ may_be_next second
  numbers = moved run a b same may_be_next (λ i request. may_be_next (placed run a) request)

  fresh : needs_fresh first ≡ needs_fresh second
  fresh = moved run a b same needs_fresh (λ i number. needs_fresh (placed run a) number)

  dues : is_due first ≡ is_due second
  dues = moved run a b same is_due (due (placed run a) b (whole run a b same))

  dues_on : is_due_on first ≡ is_due_on second
  dues_on = moved run a b same is_due_on (due_on (placed run a) b (whole run a b same))

  posts : is_post_due first ≡ is_post_due second
  posts = moved run a b same is_post_due (post_due (placed run a) b (most run a b same))

  stops : has_stop first.history ≡ has_stop second.history
  stops = ap has_stop (history_of run a) ∙ (λ i. (same i).stopped) ∙ sym (ap has_stop (history_of run b))

  too_many : MayBeTooMany first → MayBeTooMany second
  too_many h = record {
    nothing_due = sym (moved run a b same due_work (due_works (placed run a) b (whole run a b same))) ∙ h.nothing_due;
    closed = sym (moved run a b same has_open (open_alike (placed run a) b (most run a b same))) ∙ h.closed;
    some_over = λ none. h.some_over (moved run a b same over_limit (over_works (placed run a) b (whole run a b same)) ∙ none);
  }

  stop_fits : (stop : Stop) → StopFits first stop → StopFits second stop
  stop_fits StoreFault h = h
  stop_fits StartFault h = h
  stop_fits HostPipeFault h = h
  stop_fits TooManyResources h = too_many h
  stop_fits MessageTooLong h = h
  stop_fits NoMemory h = h

  pub happens : (seat : ℕ) (what : What) → MayHappen first seat what → MayHappen second seat what
  happens seat (Told request) h = record {
    registrar = h.registrar;
    host_open = sym hosts ∙ h.host_open;
    formed = h.formed;
    next = sym (λ i. numbers i request) ∙ h.next;
  }
  happens seat (HostGone end) h = record { registrar = h.registrar; host_open = sym hosts ∙ h.host_open }
  happens seat (Begun ticket lane about) h = record { next = h.next ∙ nexts; due = sym (λ i. dues_on i about lane) ∙ h.due }
  happens seat (Answered ticket reply) h = record {
    closes = sym (λ i. seats i seat ticket) ∙ h.closes;
    fits = sym (λ i. fitting i ticket reply) ∙ h.fits;
  }
  happens seat (Lost ticket why) h = sym (λ i. seats i seat ticket) ∙ h
  happens seat (Kept number fresh_number) h = record {
    due = sym (λ i. dues i (to_keep number)) ∙ h.due;
    number_there = h.number_there ∙ (λ i. fresh i number);
  }
  happens seat (Dropped row) h = sym (λ i. dues i (to_drop row)) ∙ h
  happens seat (Cleared at) h = sym (λ i. dues i (to_clear at)) ∙ h
  happens seat (Posted n) h = sym (λ i. posts i n) ∙ h
  happens seat (Stopped stop) h = record { first = sym stops ∙ h.first; fits = stop_fits stop h.fits }

pub same-may_happen : SameMayHappen
same-may_happen = happens
