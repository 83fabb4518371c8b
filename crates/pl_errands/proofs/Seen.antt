-- What the value that is seen tells, by the fields behind it.
use Rattle.std.proofs.Common.{◌≡◌, ℕ, ◌&&◌, nat_lt, length, option_and_then, option_map, sym, ap, ◌∙◌}
use Rattle.std.specs.List.{count_by, find, list_any, position, slice_get}
use Rattle.std.specs.Option.{is_some}
use Rattle.pl_lemmas.specs.Words.{some_passes}
use Rattle.pl_events.specs.declared.operation.Op.{Op}
use Rattle.pl_events.specs.declared.operation.Source.{Source}
use Rattle.pl_model.specs.Tickets as spec
use Rattle.pl_errands.specs.declared.errands.Errands.TheInside.{Inside}
use Rattle.pl_errands.specs.Kept.{IsKept, kept_by}
use Rattle.pl_errands.specs.Lanes.{is_coming_lane, is_free_lane, is_from, is_out_lane}
use Rattle.pl_errands.specs.Rows.{is_open_row}
use Rattle.pl_errands.specs.Tickets.{Kept, events_of}
use Rattle.pl_errands.proofs.Reading.{begun_at, coming_any, configured_any, configured_at, count_at, free_at, free_first, from_count, has_open, lost_at, next_row, open_at, open_count, out_at, reply_at, source_at}
use Rattle.pl_errands.proofs.RowSteps.{errand_at_row}

module _ (inside : Inside) (holds : IsKept inside) (value : Kept) (seen : kept_by inside ≡ value) where
  pub next_seen : spec.next_ticket (events_of value.tickets) ≡ length inside.rows.items
  next_seen = ap (λ (kept : Kept). spec.next_ticket (events_of kept.tickets)) (sym seen) ∙ next_row inside.rows.items inside.replies.items inside.lost.items holds.kept.numbered holds.kept.rows_agree

  pub errand_seen : (ticket : ℕ) → spec.errand_at (events_of value.tickets) ticket ≡ option_map (λ row. row.errand) (slice_get inside.rows.items ticket)
  errand_seen ticket = ap (λ (kept : Kept). spec.errand_at (events_of kept.tickets) ticket) (sym seen) ∙ errand_at_row inside.rows.items inside.replies.items inside.lost.items ticket holds.kept.numbered

  pub open_seen : (ticket : ℕ) → spec.is_open (events_of value.tickets) ticket ≡ some_passes is_open_row (slice_get inside.rows.items ticket)
  open_seen ticket = ap (λ (kept : Kept). spec.is_open (events_of kept.tickets) ticket) (sym seen) ∙ open_at inside.rows.items inside.replies.items inside.lost.items holds.kept.numbered holds.kept.rows_agree ticket

  pub open_count_seen : length (spec.open_errands (events_of value.tickets)) ≡ inside.open_tickets
  open_count_seen = ap (λ (kept : Kept). length (spec.open_errands (events_of kept.tickets))) (sym seen) ∙ open_count inside.rows.items inside.replies.items inside.lost.items holds.kept.numbered holds.kept.rows_agree ∙ holds.kept.open_count

  pub has_open_seen : is_some (slice_get (spec.open_errands (events_of value.tickets)) 0) ≡ nat_lt 0 inside.open_tickets
  has_open_seen = ap (λ (kept : Kept). is_some (slice_get (spec.open_errands (events_of kept.tickets)) 0)) (sym seen) ∙ has_open inside.rows.items inside.replies.items inside.lost.items holds.kept.numbered holds.kept.rows_agree ∙ ap (nat_lt 0) holds.kept.open_count

  pub begun_seen : (about : Op) → spec.was_begun (events_of value.tickets) about ≡ list_any (λ row. spec.same_op row.errand.op about) inside.rows.items
  begun_seen about = ap (λ (kept : Kept). spec.was_begun (events_of kept.tickets) about) (sym seen) ∙ begun_at inside.rows.items inside.replies.items inside.lost.items holds.kept.numbered holds.kept.rows_agree about

  pub reply_seen : (about : Op) → spec.reply_to value.tickets.answers about ≡ option_map (λ one. one.closed.reply) (find (λ one. spec.same_op one.closed.op about) inside.replies.items)
  reply_seen about = ap (λ (kept : Kept). spec.reply_to kept.tickets.answers about) (sym seen) ∙ reply_at inside.replies.items about

  pub count_seen : spec.lane_count (events_of value.tickets) ≡ length inside.lanes.items
  count_seen = ap (λ (kept : Kept). spec.lane_count (events_of kept.tickets)) (sym seen) ∙ count_at inside.rows.items inside.replies.items inside.lost.items holds.kept.numbered holds.kept.rows_agree inside.lanes.items holds.kept.lanes_agree

  pub source_seen : (lane : ℕ) → spec.lane_source (events_of value.tickets) lane ≡ option_and_then (λ one. one.source) (slice_get inside.lanes.items lane)
  source_seen lane = ap (λ (kept : Kept). spec.lane_source (events_of kept.tickets) lane) (sym seen) ∙ source_at inside.rows.items inside.replies.items inside.lost.items holds.kept.numbered holds.kept.rows_agree inside.lanes.items holds.kept.lanes_agree lane

  pub configured_seen : (lane : ℕ) → spec.is_configured (events_of value.tickets) lane ≡ some_passes (λ one. one.configured) (slice_get inside.lanes.items lane)
  configured_seen lane = ap (λ (kept : Kept). spec.is_configured (events_of kept.tickets) lane) (sym seen) ∙ configured_at inside.rows.items inside.replies.items inside.lost.items holds.kept.numbered holds.kept.rows_agree inside.lanes.items holds.kept.lanes_agree lane

  pub out_seen : (lane : ℕ) → spec.is_out (events_of value.tickets) lane ≡ some_passes is_out_lane (slice_get inside.lanes.items lane)
  out_seen lane = ap (λ (kept : Kept). spec.is_out (events_of kept.tickets) lane) (sym seen) ∙ out_at inside.rows.items inside.replies.items inside.lost.items holds.kept.numbered holds.kept.rows_agree inside.lanes.items holds.kept.lanes_agree lane

  pub lost_seen : (lane : ℕ) → spec.is_lost (events_of value.tickets) lane ≡ some_passes (λ one. one.lost) (slice_get inside.lanes.items lane)
  lost_seen lane = ap (λ (kept : Kept). spec.is_lost (events_of kept.tickets) lane) (sym seen) ∙ lost_at inside.rows.items inside.replies.items inside.lost.items holds.kept.numbered holds.kept.rows_agree inside.lanes.items holds.kept.lanes_agree lane

  pub free_seen : (lane : ℕ) → spec.is_free (events_of value.tickets) lane ≡ some_passes is_free_lane (slice_get inside.lanes.items lane)
  free_seen lane = ap (λ (kept : Kept). spec.is_free (events_of kept.tickets) lane) (sym seen) ∙ free_at inside.rows.items inside.replies.items inside.lost.items holds.kept.numbered holds.kept.rows_agree inside.lanes.items holds.kept.lanes_agree lane

  pub first_free_seen : (wanted : Source) → spec.lane_free (events_of value.tickets) wanted ≡ position (λ lane. is_from wanted lane && is_free_lane lane) inside.lanes.items
  first_free_seen wanted = ap (λ (kept : Kept). spec.lane_free (events_of kept.tickets) wanted) (sym seen) ∙ free_first inside.rows.items inside.replies.items inside.lost.items holds.kept.numbered holds.kept.rows_agree inside.lanes.items holds.kept.lanes_agree wanted

  pub lanes_seen : (wanted : Source) → length (spec.lanes_from (events_of value.tickets) wanted) ≡ count_by (is_from wanted) inside.lanes.items
  lanes_seen wanted = ap (λ (kept : Kept). length (spec.lanes_from (events_of kept.tickets) wanted)) (sym seen) ∙ from_count inside.rows.items inside.replies.items inside.lost.items holds.kept.numbered holds.kept.rows_agree inside.lanes.items holds.kept.lanes_agree wanted

  pub was_configured_seen : (wanted : Source) → spec.was_configured (events_of value.tickets) wanted ≡ list_any (λ lane. is_from wanted lane && lane.configured) inside.lanes.items
  was_configured_seen wanted = ap (λ (kept : Kept). spec.was_configured (events_of kept.tickets) wanted) (sym seen) ∙ configured_any inside.rows.items inside.replies.items inside.lost.items holds.kept.numbered holds.kept.rows_agree inside.lanes.items holds.kept.lanes_agree wanted

  pub coming_seen : (wanted : Source) → list_any (spec.is_coming (events_of value.tickets)) (spec.lanes_from (events_of value.tickets) wanted) ≡ list_any (λ lane. is_from wanted lane && is_coming_lane lane) inside.lanes.items
  coming_seen wanted = ap (λ (kept : Kept). list_any (spec.is_coming (events_of kept.tickets)) (spec.lanes_from (events_of kept.tickets) wanted)) (sym seen) ∙ coming_any inside.rows.items inside.replies.items inside.lost.items holds.kept.numbered holds.kept.rows_agree inside.lanes.items holds.kept.lanes_agree wanted
