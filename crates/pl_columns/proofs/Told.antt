-- What the tickets that are kept tell of operations and lanes, the plain events of all columns tell too.
use Rattle.std.proofs.Common.{◌≡◌, List}
use Rattle.pl_errands.specs.Tickets.{events_of}
use Rattle.pl_events.specs.declared.event.Event.{Event}
use Rattle.pl_model.specs.Tickets.{errand_at, is_coming, is_free, is_lost, is_open, is_out, lane_count, lane_free, lane_source, lanes_from, next_ticket, open_errands, was_begun, was_configured}
use Rattle.pl_model_step.proofs.Lanes as lanes
use Rattle.pl_model_step.proofs.Lanes.{SameTickets}
use Rattle.pl_columns.specs.Read.{history_by, summary_by}
use Rattle.pl_columns.specs.declared.columns.Columns.{Columns}
use Rattle.pl_columns.proofs.Alike.{same_tickets}

module _ (columns : Columns) where
  abbrev kept : List Event
  kept = events_of columns.errands.tickets

  same : SameTickets kept (history_by columns)
  unfolding history_by
  same = same_tickets (summary_by columns)

  pub next_told : next_ticket kept ≡ next_ticket (history_by columns)
  next_told = lanes.next kept (history_by columns) same

  pub errand_told : errand_at kept ≡ errand_at (history_by columns)
  errand_told = lanes.errands kept (history_by columns) same

  pub begun_told : was_begun kept ≡ was_begun (history_by columns)
  begun_told = lanes.begun kept (history_by columns) same

  pub open_told : open_errands kept ≡ open_errands (history_by columns)
  open_told = lanes.open_ones kept (history_by columns) same

  pub ticket_told : is_open kept ≡ is_open (history_by columns)
  ticket_told = lanes.opens kept (history_by columns) same

  pub source_told : lane_source kept ≡ lane_source (history_by columns)
  source_told = lanes.sources kept (history_by columns) same

  pub count_told : lane_count kept ≡ lane_count (history_by columns)
  count_told = lanes.count kept (history_by columns) same

  pub lanes_told : lanes_from kept ≡ lanes_from (history_by columns)
  lanes_told = lanes.lanes kept (history_by columns) same

  pub out_told : is_out kept ≡ is_out (history_by columns)
  out_told = lanes.out kept (history_by columns) same

  pub lost_told : is_lost kept ≡ is_lost (history_by columns)
  lost_told = lanes.lost kept (history_by columns) same

  pub free_told : is_free kept ≡ is_free (history_by columns)
  free_told = lanes.free kept (history_by columns) same

  pub lane_told : lane_free kept ≡ lane_free (history_by columns)
  lane_told = lanes.free_lane kept (history_by columns) same

  pub coming_told : is_coming kept ≡ is_coming (history_by columns)
  coming_told = lanes.coming kept (history_by columns) same

  pub configured_told : was_configured kept ≡ was_configured (history_by columns)
  configured_told = lanes.stands kept (history_by columns) same
