use Rattle.std.proofs.Common.{◌≡◌, ◌<◌, ◌≤◌, ◌+◌, ◌∙◌, ◌++◌, ◌∷◌, [], ℕ, false, true, List, length, sym, ap, subst, rules, arith}
use Rattle.std.proofs.lemmas.List.{length_push}
use Rattle.std.specs.Vec.{vec_capacity}
use Rattle.pl_model.specs.declared.errand.Errand.{Errand}
use Rattle.pl_errands.specs.declared.lane.Lane.{Lane}
use Rattle.pl_errands.specs.declared.row.Row.{Row}
use Rattle.pl_errands.specs.declared.row.Standing.TheVariants as standing
use Rattle.pl_errands.specs.Agree.{AreKept}
use Rattle.pl_errands.specs.Index.{AgreeIndex}
use Rattle.pl_errands.specs.Kept.{HasRoom}
use Rattle.pl_errands.specs.Tickets.{Kept}
use Rattle.pl_errands.proofs.Looking.{begun_index}
use Rattle.pl_errands.proofs.Seen.{count_seen, next_seen}
use Rattle.pl_errands.proofs.Steps.{begun_kept}
use Rattle.pl_errands.proofs.errands.Errands.begin_prepared.Goals as goal

pub add_to_lane-requires-clause-within : goal.add_to_lane-requires-clause-within
add_to_lane-requires-clause-within c =
    subst (λ (n : ℕ). c.args.lane ≤ n) (count_seen c.self.inside c.self.invariant c.args.self.now c.self.view_is) c.requires.lane

pub keep_begun-requires : goal.keep_begun-requires
keep_begun-requires c =
    let ready : c.self.inside.ready ≡ true = ap (λ (kept : Kept). kept.ready) c.self.view_is ∙ c.requires.ready in
    let room : HasRoom c.self.inside = c.self.invariant.room ready in
    room.index

pub invariant_of-self : goal.invariant_of-self
invariant_of-self c =
    let rows : List Row = c.self.inside.rows.items in
    let errand : Errand = record { ticket = c.len-ticket.result; seat = c.args.seat; lane = c.args.lane; op = c.args.op } in
    let row : Row = record { errand = record { ticket = c.len-ticket.result; seat = c.args.seat; lane = c.args.lane; op = c.args.op }; standing = standing.Open } in
    let next : c.len-ticket.result ≡ length rows = c.len-ticket.ensures ∙ c.self.inside.rows.ok.0 in
    let within : c.args.lane ≤ length c.self.inside.lanes.items =
    subst (λ (n : ℕ). c.args.lane ≤ n) (count_seen c.self.inside c.self.invariant c.args.self.now c.self.view_is) c.requires.lane in
    let more = begun_kept c.self.inside.rows.items c.self.inside.replies.items c.self.inside.lost.items c.self.inside.lanes.items
    c.self.inside.open_tickets c.self.invariant.kept errand next within in
    let pushed : c.push.new.self.items ≡ c.self.inside.rows.items ++ (record { errand = record { ticket = c.len-ticket.result; seat = c.args.seat; lane = c.args.lane; op = c.args.op }; standing = standing.Open }) ∷ [] = search rules in
    let longer : length c.push.new.self.items ≡ length c.self.inside.rows.items + 1 = ap length pushed ∙ length_push rows row in
    let ready : c.self.inside.ready ≡ true = ap (λ (kept : Kept). kept.ready) c.self.view_is ∙ c.requires.ready in
    let room : HasRoom c.self.inside = c.self.invariant.room ready in
    let replies : length c.self.inside.rows.items < vec_capacity c.self.inside.replies = room.replies in
    let lost : length c.self.inside.rows.items < vec_capacity c.self.inside.lost = room.lost in
    let P : List Row × List Lane → Type 0 = λ t. AreKept t.0 c.self.inside.replies.items c.self.inside.lost.items t.1 (c.self.inside.open_tickets + 1) in
    record {
      kept = subst P (λ i. (sym pushed i, sym c.add_to_lane.ensures i)) more;
      looked_up = subst (λ (rows : List Row). AgreeIndex c.keep_begun.new.index rows c.self.inside.replies.items) (sym pushed)
          (begun_index c.self.inside.index c.keep_begun.new.index c.self.inside.rows.items c.self.inside.replies.items c.self.invariant.looked_up row
          c.keep_begun.ensures);
      replies_room = omega arith;
      lost_room = omega arith;
      room = λ no_more. absurd (let e : false ≡ true = no_more in cc);
    }

pub returns-clause-number : goal.returns-clause-number
returns-clause-number c =
    c.len-ticket.ensures ∙ c.self.inside.rows.ok.0
    ∙ sym (next_seen c.self.inside c.self.invariant c.args.self.now c.self.view_is)
