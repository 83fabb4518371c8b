use Rattle.std.proofs.Common.{◌≡◌, ◌<◌, ◌≤◌, ◌+◌, ◌-◌, ◌∙◌, ◌++◌, ◌∷◌, [], ℕ, List, length, sym, ap, subst, rules, arith}
use Rattle.std.specs.List.{slice_set}
use Rattle.std.specs.Vec.{vec_capacity}
use Rattle.pl_errands.specs.declared.lane.Lane.{Lane}
use Rattle.pl_errands.specs.declared.row.Row.{Row}
use Rattle.pl_errands.specs.declared.row.Standing.TheVariants as standing
use Rattle.pl_errands.specs.Agree.{AreKept}
use Rattle.pl_errands.specs.Index.{AgreeIndex}
use Rattle.pl_errands.specs.Kept.{HasRoom}
use Rattle.pl_errands.specs.Lanes.{changed_at, closed_by}
use Rattle.pl_errands.specs.Rows.{tickets_by}
use Rattle.pl_errands.specs.Tickets.{Kept, with_loss}
use Rattle.pl_errands.proofs.LaneSteps.{changed-length}
use Rattle.pl_errands.proofs.Lists.{set-length}
use Rattle.pl_errands.proofs.Looking.{set_index}
use Rattle.pl_errands.proofs.RowSteps.{lost_tickets}
use Rattle.pl_errands.proofs.Seen.{open_seen}
use Rattle.pl_errands.proofs.Steps.{lost_kept, out_there, some_open}
use Rattle.pl_errands.proofs.errands.Errands.lose.Goals as goal

pub close-errand-requires : goal.close-errand-requires
close-errand-requires c =
    sym (open_seen c.self.inside c.self.invariant c.args.self.now c.self.view_is c.args.ticket) ∙ c.requires

pub take_from_lane-requires : goal.take_from_lane-requires
take_from_lane-requires c =
    out_there c.self.inside.rows.items c.self.inside.replies.items c.self.inside.lost.items c.self.inside.lanes.items
    c.self.inside.open_tickets c.self.invariant.kept c.args.ticket c.close-errand.result c.close-errand.ensures.was

pub overflow_sub-self : goal.overflow_sub-self
overflow_sub-self c =
    some_open c.self.inside.rows.items c.self.inside.replies.items c.self.inside.lost.items c.self.inside.lanes.items
    c.self.inside.open_tickets c.self.invariant.kept c.args.ticket c.close-errand.result c.close-errand.ensures.was

pub unwrap-requires : goal.unwrap-requires
unwrap-requires c =
    let some : 1 ≤ c.self.inside.open_tickets =
    some_open c.self.inside.rows.items c.self.inside.replies.items c.self.inside.lost.items c.self.inside.lanes.items
    c.self.inside.open_tickets c.self.invariant.kept c.args.ticket c.close-errand.result c.close-errand.ensures.was in
    let all : c.self.inside.open_tickets + length c.self.inside.replies.items + length c.self.inside.lost.items ≡ length c.self.inside.rows.items =
    c.self.invariant.kept.closed_count in
    let fits : length c.self.inside.rows.items ≤ vec_capacity c.self.inside.lost = c.self.invariant.lost_room in
    let length_is : c.self.inside.lost.len ≡ length c.self.inside.lost.items = c.self.inside.lost.ok.0 in
    c.push.ensures.succeeds (omega arith)

pub invariant_of-self : goal.invariant_of-self
invariant_of-self c =
    let less = lost_kept c.self.inside.rows.items c.self.inside.replies.items c.self.inside.lost.items c.self.inside.lanes.items
    c.self.inside.open_tickets c.self.invariant.kept c.args.ticket c.close-errand.result c.close-errand.ensures.was in
    let rows : c.close-errand.new.rows.items ≡ slice_set c.self.inside.rows.items c.args.ticket
    (record { errand = c.close-errand.result; standing = standing.Lost }) = c.close-errand.ensures.set in
    let lanes : c.take_from_lane.new.lanes.items ≡ changed_at (closed_by standing.Lost) c.close-errand.result.lane c.self.inside.lanes.items =
    c.take_from_lane.ensures.items in
    let lost : c.push.new.self.items ≡ c.self.inside.lost.items ++ c.args.ticket ∷ [] = search rules in
    let same : length c.close-errand.new.rows.items ≡ length c.self.inside.rows.items =
    ap length rows ∙ set-length c.self.inside.rows.items c.args.ticket (record { errand = c.close-errand.result; standing = standing.Lost }) in
    let all : length c.self.inside.rows.items ≤ vec_capacity c.self.inside.replies = c.self.invariant.replies_room in
    let losses : length c.self.inside.rows.items ≤ vec_capacity c.self.inside.lost = c.self.invariant.lost_room in
    let wider : vec_capacity c.self.inside.lost ≤ vec_capacity c.push.new.self = c.push.ensures.capacity in
    let rows_room : vec_capacity c.close-errand.new.rows ≡ vec_capacity c.self.inside.rows = c.close-errand.ensures.room in
    let lanes_room : vec_capacity c.take_from_lane.new.lanes ≡ vec_capacity c.self.inside.lanes = c.take_from_lane.ensures.room in
    let same_lanes : length c.take_from_lane.new.lanes.items ≡ length c.self.inside.lanes.items =
    ap length lanes ∙ changed-length (closed_by standing.Lost) c.close-errand.result.lane c.self.inside.lanes.items in
    let P : List Row × List ℕ × List Lane → Type 0 = λ t. AreKept t.0 c.self.inside.replies.items t.1 t.2 (c.self.inside.open_tickets - 1) in
    record {
      kept = subst P (λ i. (sym rows i, sym lost i, sym lanes i)) less;
      looked_up = subst (λ (rows : List Row). AgreeIndex c.self.inside.index rows c.self.inside.replies.items) (sym rows)
          (set_index c.self.inside.index c.self.inside.rows.items c.self.inside.replies.items c.args.ticket c.close-errand.result standing.Lost
          c.close-errand.ensures.was c.self.invariant.looked_up);
      replies_room = omega arith;
      lost_room = omega arith;
      room = λ ready.
          let was : HasRoom c.self.inside = c.self.invariant.room ready in
          let more_rows : length c.self.inside.rows.items < vec_capacity c.self.inside.rows = was.rows in
          let more_replies : length c.self.inside.rows.items < vec_capacity c.self.inside.replies = was.replies in
          let more_lost : length c.self.inside.rows.items < vec_capacity c.self.inside.lost = was.lost in
          let more_lanes : length c.self.inside.lanes.items < vec_capacity c.self.inside.lanes = was.lanes in
          record { rows = omega arith; replies = omega arith; lost = omega arith; lanes = omega arith; index = was.index };
    }

pub returns : goal.returns
returns c =
    let rows : c.close-errand.new.rows.items ≡ slice_set c.self.inside.rows.items c.args.ticket
    (record { errand = c.close-errand.result; standing = standing.Lost }) = c.close-errand.ensures.set in
    let lost : c.push.new.self.items ≡ c.self.inside.lost.items ++ c.args.ticket ∷ [] = search rules in
    let told : tickets_by c.close-errand.new.rows.items c.self.inside.replies.items c.push.new.self.items
    ≡ with_loss c.args.ticket (tickets_by c.self.inside.rows.items c.self.inside.replies.items c.self.inside.lost.items) =
    (λ i. tickets_by (rows i) c.self.inside.replies.items (lost i))
    ∙ lost_tickets c.self.inside.rows.items c.self.inside.replies.items c.self.inside.lost.items c.args.ticket
    c.close-errand.result c.close-errand.ensures.was in
    λ i. record {
      tickets = (told ∙ ap (λ (kept : Kept). with_loss c.args.ticket kept.tickets) c.self.view_is) i;
      ready = (ap (λ (kept : Kept). kept.ready) c.self.view_is) i;
    }
