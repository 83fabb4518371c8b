-- Columns that are those of a history's summary tell the history.
use Rattle.std.specs.Prelude.{◌≡◌, ℕ, List}
use Rattle.pl_columns.specs.declared.columns.Columns.{Columns}
use Rattle.pl_events.specs.declared.event.Event.{Event}
use Rattle.pl_model.specs.Due.{count_of}
use Rattle.pl_model.specs.History.{known_of}
use Rattle.pl_model.specs.Step.{summary_of}
use Rattle.pl_model.specs.declared.fixed.Fixed.{Fixed}
use Rattle.pl_records.specs.Columns.{fresh_in}
use Rattle.pl_due.specs.Seen.{Tells, known_after}
use Rattle.pl_due.specs.declared.seen.Seen.{Seen}

-- the columns that are kept are those of the summary of a history of this run
pub record AreColumns (columns : Columns) (run : Fixed) (history : List Event) : Type 0 where
  pub same_run : columns.claims.run ≡ run
  pub goals : columns.requests.goals ≡ (summary_of run history).goals
  pub asked : columns.requests.asked ≡ (summary_of run history).asked
  pub decided : columns.claims.decided ≡ (summary_of run history).decided
  pub problems : columns.troubles ≡ (summary_of run history).problems
  pub answers : columns.errands.tickets.answers ≡ (summary_of run history).answers
  pub begun : columns.errands.tickets.begun ≡ (summary_of run history).begun
  pub answered : columns.errands.tickets.answered ≡ (summary_of run history).answered
  pub lost : columns.errands.tickets.lost ≡ (summary_of run history).lost
  pub configured : columns.errands.tickets.configured ≡ (summary_of run history).configured
  pub recorded : columns.records.records.recorded ≡ (summary_of run history).recorded
  pub fresh : (goal : ℕ) → fresh_in columns.records.records.kept goal ≡ (summary_of run history).fresh goal
  pub removed : columns.records.records.removed ≡ (summary_of run history).removed
  pub cleared : columns.records.records.cleared ≡ (summary_of run history).cleared
  pub posted : columns.records.records.posted ≡ (summary_of run history).posted
  pub host_gone : columns.records.records.host_gone ≡ (summary_of run history).host_gone
  pub stopped : columns.records.records.stopped ≡ (summary_of run history).stopped

-- what is known after the history is what they tell over it
abbrev pub ColumnsKnow : Type 0
ColumnsKnow = (seen : Seen) (run : Fixed) (history : List Event) → AreColumns seen.columns.now run history
    → known_after seen history ≡ known_of run history

-- and they tell the history, where the count is that of its state
abbrev pub ColumnsTell : Type 0
ColumnsTell = (seen : Seen) (run : Fixed) (history : List Event) → AreColumns seen.columns.now run history
    → count_of (known_of run history) ≡ seen.count → Tells seen history
