-- The columns after an answer.
use Rattle.std.specs.Prelude.{ℕ, ◌+◌, ◌-◌, Bool, Option, None, Some, List, ◌++◌, drop, option_and_then}
use Rattle.std.specs.List.{cons_option}
use Rattle.pl_claims.specs.Columns.{Kept as KeptClaims}
use Rattle.pl_columns.specs.Read.{history_by}
use Rattle.pl_columns.specs.declared.columns.Columns.{Columns}
use Rattle.pl_decide.specs.declared.problem.Problem.{Problem}
use Rattle.pl_errands.specs.Tickets.{Kept as KeptErrands, with_answer}
use Rattle.pl_events.specs.declared.event.What.TheVariants.{Answered}
use Rattle.pl_events.specs.declared.reply.Reply.{Reply}
use Rattle.pl_model.specs.Problems.{at_position}
use Rattle.pl_model.specs.Recording.{recorded_by_reply, removed_by_reply}
use Rattle.pl_model.specs.Step.{settled}
use Rattle.pl_model.specs.Tickets.{closed_by}
use Rattle.pl_records.specs.Columns.{Kept as KeptRecords}

-- the goal that a reply to a ticket records, and the row that it removes
abbrev pub goal_by : Columns → ℕ → Reply → Option ℕ
goal_by columns ticket reply = option_and_then recorded_by_reply (closed_by (history_by columns) (Answered ticket reply))

abbrev pub row_by : Columns → ℕ → Reply → Option ℕ
row_by columns ticket reply = option_and_then removed_by_reply (closed_by (history_by columns) (Answered ticket reply))

-- for how many removals there is memory, once this row is removed
abbrev pub less_by : Option ℕ → ℕ → ℕ
less_by None count = count
less_by (Some row) count = count - 1

-- the records with a goal and a row more, where there are these, and whether they are ready for another goal
abbrev pub records_with : Option ℕ → Option ℕ → Bool → KeptRecords → KeptRecords
records_with goal row ready kept = record kept {
  records = record kept.records {
    recorded = cons_option goal kept.records.recorded;
    removed = cons_option row kept.records.removed;
  };
  ready = ready;
  removals = less_by row kept.removals;
}

abbrev pub errands_with : ℕ → Reply → KeptErrands → KeptErrands
errands_with ticket reply errands = record errands { tickets = with_answer ticket reply errands.tickets }

-- what is decided once all is that the replies reach, with memory for so many decisions more
abbrev pub claims_with : ℕ → Reply → ℕ → Columns → KeptClaims
claims_with ticket reply left columns = record columns.claims {
  decided =
      settled columns.claims.run (with_answer ticket reply columns.errands.tickets).answers columns.claims.decided
      columns.requests.goals;
  ready = left;
}

-- the columns after an answer, but for what it decides and its problems
abbrev pub replied_columns : ℕ → Reply → Bool → Columns → Columns
replied_columns ticket reply ready columns = record columns {
  errands = errands_with ticket reply columns.errands;
  records = records_with (goal_by columns ticket reply) (row_by columns ticket reply) ready columns.records;
}

-- the same with what it decides
abbrev pub settled_columns : ℕ → Reply → Bool → ℕ → Columns → Columns
settled_columns ticket reply ready left columns =
    record (replied_columns ticket reply ready columns) { claims = claims_with ticket reply left columns }

-- and with its problems
abbrev pub answered_columns : ℕ → ℕ → Reply → Bool → ℕ → List Problem → Columns → Columns
answered_columns at ticket reply ready left problems columns =
    record (settled_columns ticket reply ready left columns) { troubles = columns.troubles ++ at_position at problems }

-- ---- taken back

-- a list without the newest of it, where this was added
abbrev pub without : {X Y : Type 0} → Option X → List Y → List Y
without None list = list
without (Some added) list = drop 1 list

abbrev pub more_by : Option ℕ → ℕ → ℕ
more_by None count = count
more_by (Some row) count = count + 1

-- the records without the newest goal and the newest row, where there are these
abbrev pub records_without : Option ℕ → Option ℕ → KeptRecords → KeptRecords
records_without goal row kept = record kept {
  records = record kept.records {
    recorded = without goal kept.records.recorded;
    removed = without row kept.records.removed;
  };
  removals = more_by row kept.removals;
}
