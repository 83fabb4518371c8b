use Rattle.std.proofs.Common.{◌≤◌, ◌+◌, ◌^◌, arith, refl}
use Rattle.std.proofs.lemmas.Grind.{common_steps}
use Rattle.pl_snap.specs.declared.tag.Tag.{Tag}
use Rattle.pl_snap.specs.Rows.{tagged_pending}
use Rattle.pl_snap.proofs.Kept.{kept-opened}
use Rattle.pl_snap.proofs.snap.Snap.open_pending.Goals as goal

pub invariant_of-self-in-Ok : goal.invariant_of-self-in-Ok
invariant_of-self-in-Ok c =
    let a = c.self.inside in
    let tag : Tag = record { number = c.args.ticket; stamp = a.next_stamp } in
    let below : a.next_stamp + 1 ≤ 2 ^ 62 = grind (arith, common_steps) in
    rw c.in-Ok.ensures.added (kept-opened a.fresh a.rows a.base_pending a.own_pending a.next_stamp (tagged_pending tag c.args.pending) refl below c.self.invariant)
