-- The plain events of a summary and those of its tickets tell the same of tickets and lanes.
use Rattle.std.proofs.Common.{◌∙◌, sym}
use Rattle.pl_errands.specs.Tickets.{events_of, tickets_in}
use Rattle.pl_errands.proofs.Events.{begun_read, closed_read, configured_read, lost_read}
use Rattle.pl_model.specs.Step.{Summary, plain_history}
use Rattle.pl_model_step.proofs.Lanes.{SameTickets}
use Rattle.pl_model_step.proofs.Plain.{plain_begun}
use Rattle.pl_model_step.proofs.PlainTickets.{plain_closed, plain_configured, plain_lost}

pub same_tickets : (summary : Summary) → SameTickets (events_of (tickets_in summary)) (plain_history summary)
same_tickets summary = record {
  begun = begun_read (tickets_in summary) ∙ sym (plain_begun summary);
  closed = λ ticket. closed_read (tickets_in summary) ticket ∙ sym (plain_closed summary ticket);
  lost = λ ticket. lost_read (tickets_in summary) ticket ∙ sym (plain_lost summary ticket);
  configured = λ errand. configured_read (tickets_in summary) errand ∙ sym (plain_configured summary errand);
}
