-- The records follow the summary of a history.
use Rattle.std.specs.Prelude.{◌≡◌, ℕ, Option, None, Some, [], option_and_then}
use Rattle.std.specs.List.{cons_option}
use Rattle.pl_events.specs.declared.event.Event.{Event}
use Rattle.pl_events.specs.declared.event.What.{What}
use Rattle.pl_events.specs.declared.event.What.TheVariants.{Answered, Cleared, Dropped, HostGone, Kept, Posted, Stopped}
use Rattle.pl_model.specs.declared.errand.Closed.{Closed}
use Rattle.pl_model.specs.declared.fixed.Fixed.{Fixed}
use Rattle.pl_model.specs.Recording.{recorded_by_reply, removed_by_reply}
use Rattle.pl_model.specs.Step.{Summary, after, changed, plain_history, summary_of}
use Rattle.pl_model.specs.Tickets.{closed_by}
use Rattle.pl_records.specs.Columns.{Records, fresh_in, no_records, with_cleared, with_host_gone, with_kept, with_posted, with_recorded, with_removed, with_stop}

-- a summary has these records
pub record HasRecords (summary : Summary) (records : Records) : Type 0 where
  pub recorded : records.recorded ≡ summary.recorded
  pub fresh : (number : ℕ) → fresh_in records.kept number ≡ summary.fresh number
  pub removed : records.removed ≡ summary.removed
  pub cleared : records.cleared ≡ summary.cleared
  pub posted : records.posted ≡ summary.posted
  pub host_gone : records.host_gone ≡ summary.host_gone
  pub stopped : records.stopped ≡ summary.stopped

-- the records with an answered operation: its reply may record a goal or remove a row
abbrev pub with_answer : Option Closed → Records → Records
with_answer closed records = record records {
  recorded = cons_option (option_and_then recorded_by_reply closed) records.recorded;
  removed = cons_option (option_and_then removed_by_reply closed) records.removed;
}

-- the records with one event more
abbrev pub records_after : Summary → What → Records → Records
records_after before (HostGone end) records = with_host_gone records
records_after before (Answered ticket reply) records =
    with_answer (closed_by (plain_history before) (Answered ticket reply)) records
records_after before (Kept goal fresh) records = with_kept goal fresh records
records_after before (Dropped row) records = with_removed row records
records_after before (Cleared at) records = with_cleared at records
records_after before (Posted n) records = with_posted n records
records_after before (Stopped stop) records = with_stop records
records_after before _ records = records

-- an answered operation records a goal, or removes a row, or neither
pub record AnswerRecords (closed : Option Closed) (records : Records) : Type 0 where
  pub recorded : (goal : ℕ) → option_and_then recorded_by_reply closed ≡ Some goal → with_answer closed records ≡ with_recorded goal records
  pub removed : (row : ℕ) → option_and_then removed_by_reply closed ≡ Some row → with_answer closed records ≡ with_removed row records
  pub neither : option_and_then recorded_by_reply closed ≡ None → option_and_then removed_by_reply closed ≡ None
      → with_answer closed records ≡ records

-- the records follow the summary event by event, from that of no event
pub record RecordsFollow : Type 0 where
  pub none : (run : Fixed) → HasRecords (summary_of run []) no_records
  pub changes : (run : Fixed) (before : Summary) (seat : ℕ) (what : What) (records : Records) → HasRecords before records
      → HasRecords (changed run before seat what) (records_after before what records)
  pub events : (run : Fixed) (before : Summary) (event : Event) (records : Records) → HasRecords before records
      → HasRecords (after run before event) (records_after before event.what records)
  pub answers : (closed : Option Closed) (records : Records) → AnswerRecords closed records
