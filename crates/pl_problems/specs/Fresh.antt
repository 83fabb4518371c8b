-- The columns before any event.
use Rattle.std.specs.Prelude.{◌≡◌, []}
use Rattle.pl_columns.specs.declared.columns.Columns.{Columns}
use Rattle.pl_errands.specs.Tickets.{no_tickets}
use Rattle.pl_records.specs.Columns.{no_records}

-- nothing is kept of any event, nor any problem
pub record IsFresh (columns : Columns) : Type 0 where
  pub goals : columns.requests.goals ≡ []
  pub asked : columns.requests.asked ≡ []
  pub tickets : columns.errands.tickets ≡ no_tickets
  pub decided : columns.claims.decided ≡ []
  pub records : columns.records.records ≡ no_records
  pub problems : columns.troubles ≡ []
