use Rattle.std.proofs.Common.{◌≡◌, ℕ, ◌<◌, ◌≤◌, ◌+◌, ◌-◌, ◌∙◌, ◌++◌, ◌∷◌, [], cond, List, Some, length, option_map, refl, sym, ap, subst, rules, arith}
use Rattle.std.specs.List.{slice_set}
use Rattle.std.specs.Option.{option_or}
use Rattle.std.specs.Vec.{vec_capacity}
use Rattle.pl_errands.specs.declared.lane.Lane.{Lane}
use Rattle.pl_errands.specs.declared.row.Replied.{Replied}
use Rattle.pl_errands.specs.declared.row.Row.{Row}
use Rattle.pl_errands.specs.declared.row.Standing.{Standing}
use Rattle.pl_errands.specs.Agree.{AreKept}
use Rattle.pl_model.specs.Tickets.{same_op}
use Rattle.pl_errands.specs.Index.{kept_of}
use Rattle.pl_errands.specs.Kept.{HasRoom}
use Rattle.pl_errands.specs.Lanes.{changed_at, closed_by}
use Rattle.pl_errands.specs.Rows.{standing_of, tickets_by}
use Rattle.pl_errands.specs.Tickets.{Kept, with_answer}
use Rattle.pl_errands.proofs.LaneSteps.{changed-length}
use Rattle.pl_errands.proofs.Lists.{set-length}
use Rattle.pl_errands.proofs.Looking.{answered_index, get_set_here, set_index, index_of_same}
use Rattle.pl_errands.proofs.RowSteps.{answered_tickets}
use Rattle.pl_errands.proofs.Seen.{open_seen}
use Rattle.pl_errands.proofs.Steps.{answered_kept, out_there, some_open}
use Rattle.pl_errands.proofs.errands.Errands.answer.Goals as goal

pub close-errand-requires : goal.close-errand-requires
close-errand-requires c =
    sym (open_seen c.self.inside c.self.invariant c.args.self.now c.self.view_is c.args.ticket) ∙ c.requires

pub take_from_lane-requires : goal.take_from_lane-requires
take_from_lane-requires c =
    out_there c.self.inside.rows.items c.self.inside.replies.items c.self.inside.lost.items c.self.inside.lanes.items
    c.self.inside.open_tickets c.self.invariant.kept c.args.ticket c.close-errand.result c.close-errand.ensures.was

pub overflow_sub-self : goal.overflow_sub-self
overflow_sub-self c =
    some_open c.self.inside.rows.items c.self.inside.replies.items c.self.inside.lost.items c.self.inside.lanes.items
    c.self.inside.open_tickets c.self.invariant.kept c.args.ticket c.close-errand.result c.close-errand.ensures.was

pub unwrap-requires : goal.unwrap-requires
unwrap-requires c =
    let some : 1 ≤ c.self.inside.open_tickets =
    some_open c.self.inside.rows.items c.self.inside.replies.items c.self.inside.lost.items c.self.inside.lanes.items
    c.self.inside.open_tickets c.self.invariant.kept c.args.ticket c.close-errand.result c.close-errand.ensures.was in
    let all : c.self.inside.open_tickets + length c.self.inside.replies.items + length c.self.inside.lost.items ≡ length c.self.inside.rows.items =
    c.self.invariant.kept.closed_count in
    let fits : length c.self.inside.rows.items ≤ vec_capacity c.self.inside.replies = c.self.invariant.replies_room in
    let length_is : c.self.inside.replies.len ≡ length c.self.inside.replies.items = c.self.inside.replies.ok.0 in
    c.push.ensures.succeeds (omega arith)

pub invariant_of-self : goal.invariant_of-self
invariant_of-self c =
    let some : 1 ≤ c.self.inside.open_tickets =
    some_open c.self.inside.rows.items c.self.inside.replies.items c.self.inside.lost.items c.self.inside.lanes.items
    c.self.inside.open_tickets c.self.invariant.kept c.args.ticket c.close-errand.result c.close-errand.ensures.was in
    let less = answered_kept c.self.inside.rows.items c.self.inside.replies.items c.self.inside.lost.items c.self.inside.lanes.items
    c.self.inside.open_tickets c.self.invariant.kept c.args.ticket c.close-errand.result c.close-errand.ensures.was c.args.reply in
    let told : c.standing_of-standing.result ≡ standing_of c.args.reply = c.standing_of-standing.ensures in
    let rows : c.close-errand.new.rows.items ≡ slice_set c.self.inside.rows.items c.args.ticket
    (record { errand = c.close-errand.result; standing = standing_of c.args.reply }) =
    c.close-errand.ensures.set ∙ ap (λ (s : Standing). slice_set c.self.inside.rows.items c.args.ticket (record { errand = c.close-errand.result; standing = s })) told in
    let lanes : c.take_from_lane.new.lanes.items
    ≡ changed_at (closed_by (standing_of c.args.reply)) c.close-errand.result.lane c.self.inside.lanes.items =
    c.take_from_lane.ensures.items ∙ ap (λ (s : Standing). changed_at (closed_by s) c.close-errand.result.lane c.self.inside.lanes.items) told in
    let replies : c.push.new.self.items ≡ c.self.inside.replies.items
    ++ (record { ticket = c.args.ticket; closed = record { op = c.close-errand.result.op; reply = c.args.reply } }) ∷ [] = search rules in
    let same : length c.close-errand.new.rows.items ≡ length c.self.inside.rows.items =
    ap length c.close-errand.ensures.set ∙ set-length c.self.inside.rows.items c.args.ticket (record { errand = c.close-errand.result; standing = c.standing_of-standing.result }) in
    let all : length c.self.inside.rows.items ≤ vec_capacity c.self.inside.replies = c.self.invariant.replies_room in
    let losses : length c.self.inside.rows.items ≤ vec_capacity c.self.inside.lost = c.self.invariant.lost_room in
    let wider : vec_capacity c.self.inside.replies ≤ vec_capacity c.push.new.self = c.push.ensures.capacity in
    let rows_room : vec_capacity c.close-errand.new.rows ≡ vec_capacity c.self.inside.rows = c.close-errand.ensures.room in
    let lanes_room : vec_capacity c.take_from_lane.new.lanes ≡ vec_capacity c.self.inside.lanes = c.take_from_lane.ensures.room in
    let same_lanes : length c.take_from_lane.new.lanes.items ≡ length c.self.inside.lanes.items =
    ap length c.take_from_lane.ensures.items ∙ changed-length (closed_by c.standing_of-standing.result) c.close-errand.result.lane c.self.inside.lanes.items in
    let P : List Row × List Replied × List Lane → Type 0 = λ t. AreKept t.0 t.1 c.self.inside.lost.items t.2 (c.self.inside.open_tickets - 1) in
    record {
      kept = subst P (λ i. (sym rows i, sym replies i, sym lanes i)) less;
      looked_up = index_of_same c.keep_reply.new.index (sym rows) (sym replies)
          (answered_index c.self.inside.index c.keep_reply.new.index
          (slice_set c.self.inside.rows.items c.args.ticket (record { errand = c.close-errand.result; standing = standing_of c.args.reply }))
          c.self.inside.replies.items
          (set_index c.self.inside.index c.self.inside.rows.items c.self.inside.replies.items c.args.ticket c.close-errand.result (standing_of c.args.reply)
          c.close-errand.ensures.was c.self.invariant.looked_up)
          (record { ticket = c.args.ticket; closed = record { op = c.close-errand.result.op; reply = c.args.reply } })
          c.args.ticket (record { errand = c.close-errand.result; standing = standing_of c.args.reply })
          (get_set_here c.self.inside.rows.items c.args.ticket _ _ c.close-errand.ensures.was) refl
          (λ about. c.keep_reply.ensures.kept about
          ∙ ap (λ (n : ℕ). option_map (λ first. cond (same_op c.close-errand.result.op about) (option_or first (Some n)) first) (kept_of c.self.inside.index about))
          (c.len.ensures ∙ c.self.inside.replies.ok.0)));
      replies_room = omega arith;
      lost_room = omega arith;
      room = λ ready.
          let was : HasRoom c.self.inside = c.self.invariant.room ready in
          let more_rows : length c.self.inside.rows.items < vec_capacity c.self.inside.rows = was.rows in
          let more_replies : length c.self.inside.rows.items < vec_capacity c.self.inside.replies = was.replies in
          let more_lost : length c.self.inside.rows.items < vec_capacity c.self.inside.lost = was.lost in
          let more_lanes : length c.self.inside.lanes.items < vec_capacity c.self.inside.lanes = was.lanes in
          record { rows = omega arith; replies = omega arith; lost = omega arith; lanes = omega arith; index = subst (λ (n : ℕ). 0 < n) (sym c.keep_reply.ensures.room) was.index };
    }

pub returns : goal.returns
returns c =
    let rows : c.close-errand.new.rows.items ≡ slice_set c.self.inside.rows.items c.args.ticket
    (record { errand = c.close-errand.result; standing = standing_of c.args.reply }) =
    c.close-errand.ensures.set ∙ ap (λ (s : Standing). slice_set c.self.inside.rows.items c.args.ticket (record { errand = c.close-errand.result; standing = s })) c.standing_of-standing.ensures in
    let replies : c.push.new.self.items ≡ c.self.inside.replies.items
    ++ (record { ticket = c.args.ticket; closed = record { op = c.close-errand.result.op; reply = c.args.reply } }) ∷ [] = search rules in
    let told : tickets_by c.close-errand.new.rows.items c.push.new.self.items c.self.inside.lost.items
    ≡ with_answer c.args.ticket c.args.reply (tickets_by c.self.inside.rows.items c.self.inside.replies.items c.self.inside.lost.items) =
    (λ i. tickets_by (rows i) (replies i) c.self.inside.lost.items)
    ∙ answered_tickets c.self.inside.rows.items c.self.inside.replies.items c.self.inside.lost.items c.args.ticket
    c.close-errand.result c.args.reply c.close-errand.ensures.was c.self.invariant.kept.numbered in
    λ i. record {
      tickets = (told ∙ ap (λ (kept : Kept). with_answer c.args.ticket c.args.reply kept.tickets) c.self.view_is) i;
      ready = (ap (λ (kept : Kept). kept.ready) c.self.view_is) i;
    }
