-- How tickets and lanes are kept.
use Rattle.std.specs.Prelude.{◌≡◌, ◌<◌, ◌≤◌, true, length}
use Rattle.std.specs.HashMap.{spare}
use Rattle.std.specs.Vec.{vec_capacity}
use Rattle.pl_errands.specs.declared.errands.Errands.TheInside.{Inside}
use Rattle.pl_errands.specs.Agree.{AreKept}
use Rattle.pl_errands.specs.Index.{AgreeIndex}
use Rattle.pl_errands.specs.Rows.{tickets_by}
use Rattle.pl_errands.specs.Tickets.{Kept}

abbrev pub kept_by : Inside → Kept
kept_by inside = record {
  tickets = tickets_by inside.rows.items inside.replies.items inside.lost.items;
  ready = inside.ready;
}

-- there is memory for one more operation, up to its reply or its loss
pub record HasRoom (inside : Inside) : Type 0 where
  pub rows : length inside.rows.items < vec_capacity inside.rows
  pub replies : length inside.rows.items < vec_capacity inside.replies
  pub lost : length inside.rows.items < vec_capacity inside.lost
  pub lanes : length inside.lanes.items < vec_capacity inside.lanes
  pub index : 0 < spare inside.index

-- what is kept says the same, and each open ticket has room for its reply and its loss
pub record IsKept (inside : Inside) : Type 0 where
  pub kept : AreKept inside.rows.items inside.replies.items inside.lost.items inside.lanes.items inside.open_tickets
  pub looked_up : AgreeIndex inside.index inside.rows.items inside.replies.items
  pub replies_room : length inside.rows.items ≤ vec_capacity inside.replies
  pub lost_room : length inside.rows.items ≤ vec_capacity inside.lost
  pub room : inside.ready ≡ true → HasRoom inside
