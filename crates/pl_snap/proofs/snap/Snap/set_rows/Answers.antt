use Rattle.std.proofs.Common.{◌≡◌, ℕ, ◌≤◌, ◌+◌, ◌^◌, [], length, ap, sym, subst, ◌∙◌}
use Rattle.pl_snap.specs.Model.{Merged}
use Rattle.pl_snap.specs.Stamps.{IsKept}
use Rattle.pl_snap.proofs.Kept.{kept-set}
use Rattle.pl_snap.proofs.snap.Snap.set_rows.Goals as goal

pub invariant_of-self : goal.invariant_of-self
invariant_of-self c =
    let a = c.self.inside in
    let next : c.args.self.now.next_stamp ≡ a.next_stamp = ap (λ (merged : Merged). merged.next_stamp) (sym c.self.view_is) in
    let none : a.fresh ≡ [] = ap (λ (merged : Merged). merged.fresh) c.self.view_is ∙ c.requires.none_recorded in
    let below : a.next_stamp + length c.args.entries ≤ 2 ^ 62 = subst (λ (n : ℕ). n + length c.args.entries ≤ 2 ^ 62) next c.requires.stamps_left in
    let kept : IsKept [] a.rows a.base_pending a.own_pending a.next_stamp = subst (λ fresh. IsKept fresh a.rows a.base_pending a.own_pending a.next_stamp) none c.self.invariant in
    rw (none, c.set.ensures.set, c.len.ensures) (kept-set a.rows a.base_pending a.own_pending a.next_stamp c.args.entries below kept)
