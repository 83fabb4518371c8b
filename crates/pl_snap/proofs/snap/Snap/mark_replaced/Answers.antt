use Rattle.std.proofs.Common.{◌≡◌, ℕ, ◌<◌, ◌^◌, refl, ap, sym, subst}
use Rattle.pl_snap.specs.Rows.{is_row, replaced_row}
use Rattle.pl_snap.proofs.Kept.{kept-marked}
use Rattle.pl_snap.proofs.snap.Snap.mark_replaced.Goals as goal

pub invariant_of-self : goal.invariant_of-self
invariant_of-self c =
    let a = c.self.inside in
    let next : c.args.self.now.next_stamp ≡ a.next_stamp = ap (λ merged. merged.next_stamp) (sym c.self.view_is) in
    let below : a.next_stamp < 2 ^ 62 = subst (λ (n : ℕ). n < 2 ^ 62) next c.requires in
    rw c.mark_replaced.ensures (kept-marked a.fresh a.rows a.base_pending a.own_pending a.next_stamp (is_row c.args.row) (replaced_row a.next_stamp) (λ row. refl) below c.self.invariant)
