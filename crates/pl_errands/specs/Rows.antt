-- A row for each ticket: its operation, and what became of it.
use Rattle.std.specs.Prelude.{◌≡◌, ℕ, Bool, true, false, Option, Some, List, map, reverse, slice_get}
use Rattle.std.specs.List.{filter_map}
use Rattle.pl_lemmas.specs.Words.{has_number, some_passes}
use Rattle.pl_events.specs.declared.reply.Reply.{Reply}
use Rattle.pl_events.specs.declared.reply.Reply.TheVariants as reply
use Rattle.pl_model.specs.Step.{configured_by}
use Rattle.pl_errands.specs.declared.row.Replied.{Replied}
use Rattle.pl_errands.specs.declared.row.Row.{Row}
use Rattle.pl_errands.specs.declared.row.Standing.{Standing}
use Rattle.pl_errands.specs.declared.row.Standing.TheVariants.{Open, Answered, Configured, Lost}
use Rattle.pl_errands.specs.Tickets.{Tickets}

-- ---- what became of a ticket

abbrev pub is_open : Standing → Bool
is_open Open = true
is_open _ = false

abbrev pub is_answered : Standing → Bool
is_answered Answered = true
is_answered Configured = true
is_answered _ = false

abbrev pub is_configured : Standing → Bool
is_configured Configured = true
is_configured _ = false

abbrev pub is_lost : Standing → Bool
is_lost Lost = true
is_lost _ = false

abbrev pub is_open_row : Row → Bool
is_open_row row = is_open row.standing

-- what an operation comes to by a reply
abbrev pub standing_of : Reply → Standing
standing_of reply.Configured = Configured
standing_of _ = Answered

-- ---- the tickets of rows

-- the ticket of a reply by which a lane is configured
abbrev pub configured_of : Replied → Option ℕ
configured_of one = configured_by one.ticket one.closed.reply

-- the tickets that rows, replies and losses tell; they stand in the order in which they came
abbrev pub tickets_by : List Row → List Replied → List ℕ → Tickets
tickets_by rows replies lost = record {
  begun = map (λ row. row.errand) (reverse rows);
  answered = map (λ one. one.ticket) (reverse replies);
  lost = reverse lost;
  configured = filter_map configured_of (reverse replies);
  answers = map (λ one. one.closed) (reverse replies);
}

-- the row at a place has its number as its ticket
abbrev pub AreNumbered : List Row → Type 0
AreNumbered rows = (place : ℕ) (row : Row) → slice_get rows place ≡ Some row → row.errand.ticket ≡ place

-- rows say what became of the tickets, and of no other number
pub record AgreeRows (rows : List Row) (tickets : Tickets) : Type 0 where
  pub answered : (number : ℕ) → has_number tickets.answered number
      ≡ some_passes (λ row. is_answered row.standing) (slice_get rows number)
  pub lost : (number : ℕ) → has_number tickets.lost number ≡ some_passes (λ row. is_lost row.standing) (slice_get rows number)
  pub configured : (number : ℕ) → has_number tickets.configured number
      ≡ some_passes (λ row. is_configured row.standing) (slice_get rows number)
