-- What is read of the columns' plain events.
use Rattle.std.proofs.Common.{◌≡◌, ℕ, ap}
use Rattle.pl_events.specs.Closing.{has_host_end}
use Rattle.pl_lemmas.specs.Words.{has_number}
use Rattle.pl_model.specs.Known.{is_recorded}
use Rattle.pl_model.specs.Recording.{cleared_of, posted_of}
use Rattle.pl_model.specs.Rows.{was_removed}
use Rattle.pl_model_step.proofs.Plain.{plain_cleared, plain_host, plain_posted, plain_recorded, plain_removed}
use Rattle.pl_columns.specs.declared.columns.Columns.{Columns}
use Rattle.pl_columns.specs.Read.{history_by, known_by, summary_by}

pub recorded_read : (columns : Columns) (goal : ℕ) → is_recorded (known_by columns) goal ≡ has_number columns.records.records.recorded goal
unfolding history_by
recorded_read columns goal = ap (λ numbers. has_number numbers goal) (plain_recorded (summary_by columns))

pub removed_read : (columns : Columns) (row : ℕ) → was_removed (known_by columns) row ≡ has_number columns.records.records.removed row
unfolding history_by
removed_read columns row = ap (λ numbers. has_number numbers row) (plain_removed (summary_by columns))

pub cleared_read : (columns : Columns) (at : ℕ) → has_number (cleared_of (known_by columns).history) at ≡ has_number columns.records.records.cleared at
unfolding history_by
cleared_read columns at = ap (λ numbers. has_number numbers at) (plain_cleared (summary_by columns))

pub posted_read : (columns : Columns) (n : ℕ) → has_number (posted_of (known_by columns).history) n ≡ has_number columns.records.records.posted n
unfolding history_by
posted_read columns n = ap (λ numbers. has_number numbers n) (plain_posted (summary_by columns))

pub host_read : (columns : Columns) → has_host_end (known_by columns).history ≡ columns.records.records.host_gone
unfolding history_by
host_read columns = plain_host (summary_by columns)
