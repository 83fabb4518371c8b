-- The tickets of a history by themselves: what is kept of them, and what an event changes.
use Rattle.std.specs.Prelude.{ℕ, Bool, false, if◌then◌else◌, Option, option_map, List, [], ◌∷◌, ◌++◌, drop, map}
use Rattle.std.specs.List.{cons_option}
use Rattle.pl_events.specs.declared.event.Event.{Event}
use Rattle.pl_events.specs.declared.event.What.{What}
use Rattle.pl_events.specs.declared.event.What.TheVariants.{Begun, Answered, Lost}
use Rattle.pl_events.specs.declared.operation.Op.{Op}
use Rattle.pl_events.specs.declared.reply.Reply.{Reply}
use Rattle.pl_model.specs.declared.errand.Closed.{Closed}
use Rattle.pl_model.specs.declared.errand.Errand.{Errand}
use Rattle.pl_model.specs.Tickets.{closed_by, is_configured_reply}
use Rattle.pl_lemmas.specs.Words.{first_in}
use Rattle.pl_model.specs.Step.{Summary, configured_by, plain_begin, plain_loss, plain_reply, plain_word}

-- what a history tells of its tickets, newest first: the operations that were begun; the tickets that were answered,
-- those that were lost, and those that were answered by the word that their lane is configured; the operations that
-- were answered, with their replies
pub record Tickets : Type 0 where
  pub begun : List Errand
  pub answered : List ℕ
  pub lost : List ℕ
  pub configured : List ℕ
  pub answers : List Closed

-- the tickets that the summary of a history has
abbrev pub tickets_in : Summary → Tickets
tickets_in summary = record {
  begun = summary.begun;
  answered = summary.answered;
  lost = summary.lost;
  configured = summary.configured;
  answers = summary.answers;
}

abbrev pub no_tickets : Tickets
no_tickets = record { begun = []; answered = []; lost = []; configured = []; answers = [] }

-- plain events that tell the same of tickets and lanes, so that tickets are read as a history is
abbrev pub events_of : Tickets → List Event
events_of tickets =
    map plain_loss tickets.lost
    ++ (map plain_word tickets.configured ++ (map plain_reply tickets.answered ++ map plain_begin tickets.begun))

-- ---- one event more

abbrev pub with_begun : ℕ → ℕ → ℕ → Op → Tickets → Tickets
with_begun seat ticket lane about tickets = record tickets {
  begun = record { ticket = ticket; seat = seat; lane = lane; op = about } ∷ tickets.begun;
}

abbrev pub with_answer : ℕ → Reply → Tickets → Tickets
with_answer ticket reply tickets = record tickets {
  answered = ticket ∷ tickets.answered;
  configured = cons_option (configured_by ticket reply) tickets.configured;
  answers = cons_option (closed_by (events_of tickets) (Answered ticket reply)) tickets.answers;
}

abbrev pub with_loss : ℕ → Tickets → Tickets
with_loss ticket tickets = record tickets { lost = ticket ∷ tickets.lost }

-- ---- one answer less

-- the reply that came last
abbrev pub newest_reply : Tickets → Option Reply
newest_reply tickets = option_map (λ one. one.reply) (first_in tickets.answers)

-- without the newest answer
abbrev pub without_answer : Tickets → Tickets
without_answer tickets = record tickets {
  answered = drop 1 tickets.answered;
  configured = if is_configured_reply (newest_reply tickets) then drop 1 tickets.configured else tickets.configured;
  answers = drop 1 tickets.answers;
}

-- ---- an event

-- what an event changes: three kinds of events, and no other
abbrev pub tickets_after : ℕ → What → Tickets → Tickets
tickets_after seat (Begun ticket lane about) tickets = with_begun seat ticket lane about tickets
tickets_after seat (Answered ticket reply) tickets = with_answer ticket reply tickets
tickets_after seat (Lost ticket why) tickets = with_loss ticket tickets
tickets_after seat _ tickets = tickets

-- ---- what is kept

-- tickets, and whether there is memory for one more operation up to its answer or its loss
pub record Kept : Type 0 where
  pub tickets : Tickets
  pub ready : Bool

abbrev pub nothing_kept : Kept
nothing_kept = record { tickets = no_tickets; ready = false }
