-- The columns that are kept, read as a history is.
use Rattle.std.specs.Prelude.{None, List, []}
use Rattle.pl_events.specs.declared.event.Event.{Event}
use Rattle.pl_model.specs.Known.{Known}
use Rattle.pl_model.specs.Step.{Summary, plain_history}
use Rattle.pl_records.specs.Columns.{fresh_in}
use Rattle.pl_columns.specs.declared.columns.Columns.{Columns}

-- the summary that the columns make; how many events there are, what recorded the goals, and what was opened are not
-- among them
abbrev pub summary_by : Columns → Summary
summary_by columns = record {
  count = 0;
  goals = columns.requests.goals;
  decided = columns.claims.decided;
  asked = columns.requests.asked;
  problems = columns.troubles;
  answers = columns.errands.tickets.answers;
  begun = columns.errands.tickets.begun;
  answered = columns.errands.tickets.answered;
  lost = columns.errands.tickets.lost;
  configured = columns.errands.tickets.configured;
  recorded = columns.records.records.recorded;
  fresh = fresh_in columns.records.records.kept;
  results = λ number goal one. None;
  removed = columns.records.records.removed;
  cleared = columns.records.records.cleared;
  posted = columns.records.records.posted;
  host_gone = columns.records.records.host_gone;
  stopped = columns.records.records.stopped;
  opened = [];
}

-- plain events that tell the same
unfoldable pub history_by : Columns → List Event
history_by columns = plain_history (summary_by columns)

-- what the columns tell, as the definitions over what is known read it
abbrev pub known_by : Columns → Known
known_by columns = record {
  run = columns.claims.run;
  history = history_by columns;
  answers = columns.errands.tickets.answers;
  goals = columns.requests.goals;
  decided = columns.claims.decided;
  asked = columns.requests.asked;
  problems = columns.troubles;
}
