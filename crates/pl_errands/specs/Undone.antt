-- An answer that is taken back.
use Rattle.std.specs.Prelude.{◌≡◌, ℕ, true, Some}
use Rattle.pl_events.specs.declared.reply.Reply.{Reply}
use Rattle.pl_model.specs.Tickets.{is_open}
use Rattle.pl_errands.specs.Tickets.{Tickets, events_of, newest_reply, with_answer, without_answer}

-- an answer is the newest one, and without it the tickets are what they were
pub record IsUndone (ticket : ℕ) (reply : Reply) (tickets : Tickets) : Type 0 where
  pub newest : newest_reply (with_answer ticket reply tickets) ≡ Some reply
  pub undone : without_answer (with_answer ticket reply tickets) ≡ tickets

-- this holds of each answer to an open ticket
abbrev pub AnswersAreUndone : Type 0
AnswersAreUndone = (ticket : ℕ) (reply : Reply) (tickets : Tickets) → is_open (events_of tickets) ticket ≡ true
    → IsUndone ticket reply tickets
