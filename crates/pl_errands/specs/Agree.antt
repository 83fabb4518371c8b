-- Rows, replies, losses and lanes that say the same.
use Rattle.std.specs.Prelude.{◌≡◌, ℕ, ◌+◌, List, count_by, length, nat_eq}
use Rattle.std.specs.List.{IsDistinct}
use Rattle.pl_errands.specs.declared.lane.Lane.{Lane}
use Rattle.pl_errands.specs.declared.row.Replied.{Replied}
use Rattle.pl_errands.specs.declared.row.Row.{Row}
use Rattle.pl_errands.specs.Lanes.{AgreeLanes}
use Rattle.pl_errands.specs.Rows.{AgreeRows, AreNumbered, is_open_row, tickets_by}

-- the rows are numbered, and say the same as the replies and losses, as the lanes, and as the count of open tickets; no
-- ticket is answered twice
pub record AreKept (rows : List Row) (replies : List Replied) (lost : List ℕ) (lanes : List Lane) (open_tickets : ℕ) : Type 0 where
  pub numbered : AreNumbered rows
  pub rows_agree : AgreeRows rows (tickets_by rows replies lost)
  pub once : IsDistinct nat_eq (tickets_by rows replies lost).answered
  pub lanes_agree : AgreeLanes rows lanes
  pub open_count : count_by is_open_row rows ≡ open_tickets
  pub closed_count : open_tickets + length replies + length lost ≡ length rows
