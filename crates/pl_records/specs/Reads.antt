-- What a reader of plain events sees of the records.
use Rattle.std.specs.Prelude.{◌≡◌, ℕ, List}
use Rattle.pl_lemmas.specs.Words.{has_number, only_if}
use Rattle.pl_events.specs.Closing.{has_host_end, has_stop}
use Rattle.pl_events.specs.declared.event.Event.{Event}
use Rattle.pl_model.specs.Recording.{cleared_of, fresh_of, posted_of, recorded_of, removed_of}
use Rattle.pl_model.specs.Step.{Summary, plain_history}
use Rattle.pl_records.specs.Columns.{Records, fresh_in}
use Rattle.pl_records.specs.Follows.{HasRecords}

-- the plain events of a summary tell its columns; a fresh number they tell of recorded goals alone
pub record TellsColumns (summary : Summary) : Type 0 where
  pub recorded : recorded_of (plain_history summary) ≡ summary.recorded
  pub fresh : (number : ℕ) → fresh_of (plain_history summary) number ≡ only_if (has_number summary.recorded number) (summary.fresh number)
  pub removed : removed_of (plain_history summary) ≡ summary.removed
  pub cleared : cleared_of (plain_history summary) ≡ summary.cleared
  pub posted : posted_of (plain_history summary) ≡ summary.posted
  pub host_gone : has_host_end (plain_history summary) ≡ summary.host_gone
  pub stopped : has_stop (plain_history summary) ≡ summary.stopped

-- a history tells these records
pub record TellsRecords (history : List Event) (records : Records) : Type 0 where
  pub recorded : recorded_of history ≡ records.recorded
  pub fresh : (number : ℕ) → fresh_of history number ≡ only_if (has_number records.recorded number) (fresh_in records.kept number)
  pub removed : removed_of history ≡ records.removed
  pub cleared : cleared_of history ≡ records.cleared
  pub posted : posted_of history ≡ records.posted
  pub host_gone : has_host_end history ≡ records.host_gone
  pub stopped : has_stop history ≡ records.stopped

-- the plain events of any summary tell its columns, and the records that it has
pub record PlainTells : Type 0 where
  pub columns : (summary : Summary) → TellsColumns summary
  pub records : (summary : Summary) (records : Records) → HasRecords summary records → TellsRecords (plain_history summary) records
