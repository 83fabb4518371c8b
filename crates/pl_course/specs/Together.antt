-- Columns and a history that go together.
use Rattle.std.specs.Prelude.{◌≡◌, ◌≤◌, length}
use Rattle.pl_columns.specs.Read.{summary_by}
use Rattle.pl_columns.specs.declared.columns.Columns.{Columns}
use Rattle.pl_events.specs.Seen.{Seen}
use Rattle.pl_model.specs.Legal.{IsOrderly}
use Rattle.pl_model.specs.Run.{HasNames, rows_of}
use Rattle.pl_model.specs.Step.{summary_of}
use Rattle.pl_course.specs.Kept.{kept_of}
use Rattle.pl_course.specs.Room.{closings, count_left}

pub record GoTogether (columns : Columns) (history : Seen) : Type 0 where
  -- each event may happen after those before it
  pub orderly : IsOrderly columns.claims.run history.events
  -- the columns are those of the history's summary
  pub told : summary_by columns ≡ kept_of (summary_of columns.claims.run history.events)
  pub names : HasNames columns.claims.run
  -- there is memory for each drop and each clear, and for every event that is to take none
  pub removals : count_left columns.records.records.removed (length (rows_of columns.claims.run)) ≤ columns.records.removals
  pub clears : count_left columns.records.records.cleared (length columns.claims.run.base.pending) ≤ columns.records.clears
  pub room : closings columns.claims.run (summary_by columns) ≤ history.room
