-- What is read of tickets and lanes: where two histories begun the same operations, of which the same are closed, lost
-- and configured, they have the same lanes.
use Rattle.std.proofs.Common.{◌≡◌, ℕ, ◌+◌, ◌==◌, not, ◌&&◌, List, length, filter, find, map, reverse, option_and_then}
use Rattle.std.specs.List.{list_any, range_with_len}
use Rattle.pl_value.specs.Inside.{greatest}
use Rattle.pl_events.specs.declared.event.Event.{Event}
use Rattle.pl_model.specs.declared.errand.Errand.{Errand}
use Rattle.pl_model.specs.Tickets.{begun_of, errand_at, has_configured, is_closed, is_coming, is_configured, is_free, is_lost, is_open, is_out, is_source, lane_count, lane_free, lane_source, lanes_from, loses, next_ticket, open_errands, same_op, source_begun, was_begun, was_configured}

-- two histories that tell the same of their tickets
pub record SameTickets (a b : List Event) : Type 0 where
  pub begun : begun_of a ≡ begun_of b
  pub closed : (ticket : ℕ) → is_closed a ticket ≡ is_closed b ticket
  pub lost : (ticket : ℕ) → list_any (λ event. loses ticket event.what) a ≡ list_any (λ event. loses ticket event.what) b
  pub configured : (errand : Errand) → has_configured a errand ≡ has_configured b errand

module _ (a b : List Event) (same : SameTickets a b) where
  pub next : next_ticket a ≡ next_ticket b
  next = λ i. length (same.begun i)

  pub errands : errand_at a ≡ errand_at b
  errands = λ i ticket. find (λ errand. errand.ticket == ticket) (same.begun i)

  pub begun : was_begun a ≡ was_begun b
  begun = λ i about. list_any (λ errand. same_op errand.op about) (same.begun i)

  pub open_ones : open_errands a ≡ open_errands b
  open_ones = λ i. filter (λ errand. not (same.closed errand.ticket i)) (same.begun i)

  pub opens : is_open a ≡ is_open b
  opens = λ i ticket. list_any (λ errand. errand.ticket == ticket) (open_ones i)

  pub sources : lane_source a ≡ lane_source b
  sources = λ i lane.
      option_and_then (λ errand. source_begun errand.op) (find (λ errand. errand.lane == lane) (reverse (same.begun i)))

  pub count : lane_count a ≡ lane_count b
  count = λ i. greatest (map (λ errand. errand.lane + 1) (same.begun i))

  pub lanes : lanes_from a ≡ lanes_from b
  lanes = λ i wanted. filter (λ lane. is_source (sources i lane) wanted) (range_with_len 0 (count i))

  pub configured : is_configured a ≡ is_configured b
  configured = λ i lane. list_any (λ errand. errand.lane == lane && same.configured errand i) (same.begun i)

  pub out : is_out a ≡ is_out b
  out = λ i lane. list_any (λ errand. errand.lane == lane) (open_ones i)

  pub lost : is_lost a ≡ is_lost b
  lost = λ i lane. list_any (λ errand. errand.lane == lane && same.lost errand.ticket i) (same.begun i)

  pub free : is_free a ≡ is_free b
  free = λ i lane. configured i lane && not (out i lane) && not (lost i lane)

  pub free_lane : lane_free a ≡ lane_free b
  free_lane = λ i wanted. find (free i) (lanes i wanted)

  pub coming : is_coming a ≡ is_coming b
  coming = λ i lane. not (configured i lane) && not (lost i lane)

  pub stands : was_configured a ≡ was_configured b
  stands = λ i wanted. list_any (configured i) (lanes i wanted)
