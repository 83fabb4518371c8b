-- What an event changes of the tickets of a summary.
use Rattle.std.proofs.Common.{◌≡◌, ℕ, ◌==◌, ◌∷◌, find, option_map, refl, sym}
use Rattle.std.specs.List.{cons_option}
use Rattle.pl_columns.specs.Follows.{TicketsFollow}
use Rattle.pl_errands.specs.Tickets.{tickets_in, with_answer}
use Rattle.pl_events.specs.declared.event.What.TheVariants.{Answered, Begun, Cleared, Dropped, HostGone, Kept, Lost, Posted, Stopped, Told}
use Rattle.pl_events.specs.declared.reply.Reply.{Reply}
use Rattle.pl_model.specs.Step.{Summary, configured_by, plain_history}
use Rattle.pl_model.specs.Tickets.{closed_by}
use Rattle.pl_columns.proofs.Alike.{same_tickets}

answers : (before : Summary) (ticket : ℕ) (reply : Reply)
    → record {
      begun = before.begun;
      answered = ticket ∷ before.answered;
      lost = before.lost;
      configured = cons_option (configured_by ticket reply) before.configured;
      answers = cons_option (closed_by (plain_history before) (Answered ticket reply)) before.answers;
    } ≡ with_answer ticket reply (tickets_in before)
answers before ticket reply = λ i. record {
  begun = before.begun;
  answered = ticket ∷ before.answered;
  lost = before.lost;
  configured = cons_option (configured_by ticket reply) before.configured;
  answers =
      cons_option (option_map (λ about. record { op = about; reply = reply })
      (option_map (λ errand. errand.op) (find (λ errand. errand.ticket == ticket) (sym (same_tickets before).begun i)))) before.answers;
}

pub follows : TicketsFollow
follows run before seat (Told request) = refl
follows run before seat (HostGone end) = refl
follows run before seat (Begun ticket lane about) = refl
follows run before seat (Answered ticket reply) = answers before ticket reply
follows run before seat (Lost ticket why) = refl
follows run before seat (Kept goal fresh) = refl
follows run before seat (Dropped row) = refl
follows run before seat (Cleared at) = refl
follows run before seat (Posted n) = refl
follows run before seat (Stopped stop) = refl
