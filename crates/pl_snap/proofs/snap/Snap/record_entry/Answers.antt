use Rattle.std.proofs.Common.{◌≡◌, ◌≤◌, ◌+◌, ◌^◌, ◌++◌, ◌∷◌, [], length, arith, refl, ap, ◌∙◌}
use Rattle.std.proofs.lemmas.Grind.{common_steps}
use Rattle.pl_snap.specs.declared.fresh.Fresh.{Fresh}
use Rattle.pl_snap.specs.Rows.{claim_taken, rows_after}
use Rattle.pl_snap.proofs.Kept.{kept-entry}
use Rattle.pl_snap.proofs.snap.Snap.record_entry.Goals as goal

pub invariant_of-self-in-Ok-add : goal.invariant_of-self-in-Ok-add
invariant_of-self-in-Ok-add c =
    let a = c.self.inside in
    let one : Fresh = record { goal = c.args.goal; stamp = a.next_stamp; entry = c.args.entry } in
    let urn = c.args.entry.urn in
    let claim = c.args.claim in
    let marked = c.args.marked in
    let fresh : c.add.new.self ≡ a.fresh ++ one ∷ [] = c.in-Ok-add.ensures.added in
    let rows : c.take_claim.new.self ≡ claim_taken claim marked (a.next_stamp + 1) (rows_after urn claim (a.next_stamp + 2) a.rows) =
    c.take_claim.ensures ∙ ap (claim_taken claim marked (a.next_stamp + 1)) (c.take_rows.ensures ∙ c.in-Ok.ensures) in
    let places : c.len-places.result ≡ length a.rows = c.len-places.ensures in
    let top : a.next_stamp + c.len-places.result + 2 ≤ 2 ^ 62 = grind (arith, common_steps) in
    let below : a.next_stamp + 2 + length a.rows ≤ 2 ^ 62 = omega (arith, top, places) in
    rw (fresh, rows, places) (kept-entry a.fresh a.rows a.base_pending a.own_pending a.next_stamp one urn claim marked refl below c.self.invariant)
