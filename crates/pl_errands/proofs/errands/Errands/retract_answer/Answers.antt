use Rattle.std.proofs.Common.{◌≡◌, ◌<◌, ◌≤◌, ◌+◌, ◌∙◌, ◌++◌, ◌∷◌, [], cond, ℕ, List, Option, Some, true, is_some, length, option_map, refl, sym, ap, subst, arith}
use Rattle.std.proofs.lemmas.List.{length_push}
use Rattle.std.proofs.lemmas.Option.{same_Some}
use Rattle.std.specs.List.{slice_get, slice_set}
use Rattle.std.specs.Option.{option_to_list}
use Rattle.std.specs.Vec.{vec_capacity}
use Rattle.pl_model.specs.declared.errand.Errand.{Errand}
use Rattle.pl_model.specs.Tickets.{same_op}
use Rattle.pl_errands.specs.declared.lane.Lane.{Lane}
use Rattle.pl_errands.specs.declared.row.Replied.{Replied}
use Rattle.pl_errands.specs.declared.row.Row.{Row}
use Rattle.pl_errands.specs.declared.row.Standing.TheVariants as standing
use Rattle.pl_errands.specs.Agree.{AreKept}
use Rattle.pl_errands.specs.Index.{AgreeIndex, kept_of, only_before}
use Rattle.pl_errands.specs.Kept.{HasRoom}
use Rattle.pl_errands.specs.Lanes.{changed_at, is_configured_in, open_again}
use Rattle.pl_errands.specs.Rows.{tickets_by}
use Rattle.pl_errands.specs.Tickets.{Kept, without_answer}
use Rattle.pl_errands.proofs.LaneSteps.{changed-length}
use Rattle.pl_errands.proofs.Lists.{set-length}
use Rattle.pl_errands.proofs.Looking.{dropped_index, set_index_of}
use Rattle.pl_errands.proofs.Reopening.{answered_row, reopened_kept, reopened_lane, reopened_tickets}
use Rattle.pl_errands.proofs.errands.Errands.retract_answer.Goals as goal

pub give_to_lane-requires-clause-there : goal.give_to_lane-requires-clause-there
give_to_lane-requires-clause-there c =
    let replies : c.self.inside.replies.items ≡ c.pop.new.self.items ++ c.in_ok-newest.newest ∷ [] =
    c.pop.ensures.items ∙ ap (λ (o : Option Replied). c.pop.new.self.items ++ option_to_list o) c.in_ok-newest.was in
    let kept : AreKept c.self.inside.rows.items (c.pop.new.self.items ++ c.in_ok-newest.newest ∷ []) c.self.inside.lost.items c.self.inside.lanes.items c.self.inside.open_tickets =
    subst (λ (told : List Replied). AreKept c.self.inside.rows.items told c.self.inside.lost.items c.self.inside.lanes.items c.self.inside.open_tickets)
    replies c.self.invariant.kept in
    let row = answered_row c.self.inside.rows.items c.pop.new.self.items c.in_ok-newest.newest c.self.inside.lost.items c.self.inside.lanes.items
    c.self.inside.open_tickets kept in
    let lane = reopened_lane c.self.inside.rows.items c.pop.new.self.items c.in_ok-newest.newest c.self.inside.lost.items c.self.inside.lanes.items
    c.self.inside.open_tickets kept row.0 row.1 row.2 in
    let errand : row.0.errand ≡ c.reopen-errand.result =
    same_Some row.0.errand c.reopen-errand.result (sym (ap (option_map (λ (it : Row). it.errand)) row.1) ∙ c.reopen-errand.ensures.was) in
    ap (λ (it : Errand). is_some (slice_get c.self.inside.lanes.items it.lane)) (sym errand)
    ∙ ap is_some lane.1

pub invariant_of-self-2 : goal.invariant_of-self-2
invariant_of-self-2 c =
    let replies : c.self.inside.replies.items ≡ c.pop.new.self.items ++ c.in_ok-newest.newest ∷ [] =
    c.pop.ensures.items ∙ ap (λ (o : Option Replied). c.pop.new.self.items ++ option_to_list o) c.in_ok-newest.was in
    let kept : AreKept c.self.inside.rows.items (c.pop.new.self.items ++ c.in_ok-newest.newest ∷ []) c.self.inside.lost.items c.self.inside.lanes.items c.self.inside.open_tickets =
    subst (λ (told : List Replied). AreKept c.self.inside.rows.items told c.self.inside.lost.items c.self.inside.lanes.items c.self.inside.open_tickets)
    replies c.self.invariant.kept in
    let row = answered_row c.self.inside.rows.items c.pop.new.self.items c.in_ok-newest.newest c.self.inside.lost.items c.self.inside.lanes.items
    c.self.inside.open_tickets kept in
    let errand : row.0.errand ≡ c.reopen-errand.result =
    same_Some row.0.errand c.reopen-errand.result (sym (ap (option_map (λ (it : Row). it.errand)) row.1) ∙ c.reopen-errand.ensures.was) in
    let rows : slice_set c.self.inside.rows.items c.in_ok-newest.newest.ticket (record { errand = row.0.errand; standing = standing.Open })
    ≡ c.reopen-errand.new.rows.items =
    ap (λ (it : Errand). slice_set c.self.inside.rows.items c.in_ok-newest.newest.ticket (record { errand = it; standing = standing.Open })) errand
    ∙ sym c.reopen-errand.ensures.set in
    let configured : c.is_configured_by-configured.result ≡ is_configured_in c.reopen-errand.new.rows.items c.reopen-errand.result.lane =
    c.is_configured_by-configured.ensures ∙ ap (λ (items : List Row). is_configured_in items c.reopen-errand.result.lane) c.as_slice.ensures.value in
    let lanes : changed_at (open_again (is_configured_in (slice_set c.self.inside.rows.items c.in_ok-newest.newest.ticket (record { errand = row.0.errand; standing = standing.Open })) row.0.errand.lane)) row.0.errand.lane c.self.inside.lanes.items
    ≡ c.give_to_lane.new.lanes.items =
    (λ i. changed_at (open_again (is_configured_in (rows i) (errand i).lane)) (errand i).lane c.self.inside.lanes.items)
    ∙ ap (λ b. changed_at (open_again b) c.reopen-errand.result.lane c.self.inside.lanes.items) (sym configured)
    ∙ sym c.give_to_lane.ensures.items in
    let open_kept = reopened_kept c.self.inside.rows.items c.pop.new.self.items c.in_ok-newest.newest c.self.inside.lost.items c.self.inside.lanes.items
    c.self.inside.open_tickets kept row.0 row.1 row.2 in
    let same : length c.reopen-errand.new.rows.items ≡ length c.self.inside.rows.items =
    ap length c.reopen-errand.ensures.set ∙ set-length c.self.inside.rows.items c.in_ok-newest.newest.ticket (record { errand = c.reopen-errand.result; standing = standing.Open }) in
    let all : length c.self.inside.rows.items ≤ vec_capacity c.self.inside.replies = c.self.invariant.replies_room in
    let losses : length c.self.inside.rows.items ≤ vec_capacity c.self.inside.lost = c.self.invariant.lost_room in
    let replies_room : vec_capacity c.pop.new.self ≡ vec_capacity c.self.inside.replies = c.pop.ensures.capacity in
    let rows_room : vec_capacity c.reopen-errand.new.rows ≡ vec_capacity c.self.inside.rows = c.reopen-errand.ensures.room in
    let lanes_room : vec_capacity c.give_to_lane.new.lanes ≡ vec_capacity c.self.inside.lanes = c.give_to_lane.ensures.room in
    let same_lanes : length c.give_to_lane.new.lanes.items ≡ length c.self.inside.lanes.items =
    ap length c.give_to_lane.ensures.items ∙ changed-length (open_again c.is_configured_by-configured.result) c.reopen-errand.result.lane c.self.inside.lanes.items in
    let P : List Row × List Lane → Type 0 = λ t. AreKept t.0 c.pop.new.self.items c.self.inside.lost.items t.1 (c.self.inside.open_tickets + 1) in
    record {
      kept = subst P (λ i. (rows i, lanes i)) open_kept;
      looked_up = subst (λ (items : List Row). AgreeIndex c.drop_reply.new.index items c.pop.new.self.items) rows
          (dropped_index c.self.inside.index c.drop_reply.new.index
          (slice_set c.self.inside.rows.items c.in_ok-newest.newest.ticket (record { errand = row.0.errand; standing = standing.Open }))
          c.pop.new.self.items c.in_ok-newest.newest
          (set_index_of c.self.inside.index c.self.inside.rows.items (c.pop.new.self.items ++ c.in_ok-newest.newest ∷ []) c.in_ok-newest.newest.ticket
          row.0 (record { errand = row.0.errand; standing = standing.Open }) row.1 refl
          (subst (AgreeIndex c.self.inside.index c.self.inside.rows.items) replies c.self.invariant.looked_up))
          (λ about. c.drop_reply.ensures.kept about
          ∙ ap (λ (n : ℕ). option_map (λ first. cond (same_op c.in_ok-newest.newest.closed.op about) (only_before n first) first) (kept_of c.self.inside.index about))
          (c.len.ensures ∙ c.pop.new.self.ok.0)));
      replies_room = omega arith;
      lost_room = omega arith;
      room = λ ready.
          let was : HasRoom c.self.inside = c.self.invariant.room ready in
          let more_rows : length c.self.inside.rows.items < vec_capacity c.self.inside.rows = was.rows in
          let more_replies : length c.self.inside.rows.items < vec_capacity c.self.inside.replies = was.replies in
          let more_lost : length c.self.inside.rows.items < vec_capacity c.self.inside.lost = was.lost in
          let more_lanes : length c.self.inside.lanes.items < vec_capacity c.self.inside.lanes = was.lanes in
          record { rows = omega arith; replies = omega arith; lost = omega arith; lanes = omega arith; index = subst (λ (n : ℕ). 0 < n) (sym c.drop_reply.ensures.room) was.index };
    }

pub returns-clause-retracted : goal.returns-clause-retracted
returns-clause-retracted c =
    let replies : c.self.inside.replies.items ≡ c.pop.new.self.items ++ c.in_ok-newest.newest ∷ [] =
    c.pop.ensures.items ∙ ap (λ (o : Option Replied). c.pop.new.self.items ++ option_to_list o) c.in_ok-newest.was in
    let kept : AreKept c.self.inside.rows.items (c.pop.new.self.items ++ c.in_ok-newest.newest ∷ []) c.self.inside.lost.items c.self.inside.lanes.items c.self.inside.open_tickets =
    subst (λ (told : List Replied). AreKept c.self.inside.rows.items told c.self.inside.lost.items c.self.inside.lanes.items c.self.inside.open_tickets)
    replies c.self.invariant.kept in
    let row = answered_row c.self.inside.rows.items c.pop.new.self.items c.in_ok-newest.newest c.self.inside.lost.items c.self.inside.lanes.items
    c.self.inside.open_tickets kept in
    let errand : row.0.errand ≡ c.reopen-errand.result =
    same_Some row.0.errand c.reopen-errand.result (sym (ap (option_map (λ (it : Row). it.errand)) row.1) ∙ c.reopen-errand.ensures.was) in
    let rows : c.reopen-errand.new.rows.items
    ≡ slice_set c.self.inside.rows.items c.in_ok-newest.newest.ticket (record { errand = row.0.errand; standing = standing.Open }) =
    c.reopen-errand.ensures.set
    ∙ ap (λ (it : Errand). slice_set c.self.inside.rows.items c.in_ok-newest.newest.ticket (record { errand = it; standing = standing.Open })) (sym errand) in
    let told : tickets_by c.reopen-errand.new.rows.items c.pop.new.self.items c.self.inside.lost.items
    ≡ without_answer (tickets_by c.self.inside.rows.items c.self.inside.replies.items c.self.inside.lost.items) =
    ap (λ (items : List Row). tickets_by items c.pop.new.self.items c.self.inside.lost.items) rows
    ∙ reopened_tickets c.self.inside.rows.items c.pop.new.self.items c.in_ok-newest.newest c.self.inside.lost.items c.self.inside.lanes.items
    c.self.inside.open_tickets kept row.0 row.1 row.2
    ∙ ap (λ (items : List Replied). without_answer (tickets_by c.self.inside.rows.items items c.self.inside.lost.items)) (sym replies) in
    λ i. record {
      tickets = (told ∙ ap (λ (it : Kept). without_answer it.tickets) c.self.view_is) i;
      ready = (ap (λ (it : Kept). it.ready) c.self.view_is) i;
    }
