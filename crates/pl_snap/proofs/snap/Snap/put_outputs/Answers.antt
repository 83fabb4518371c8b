use Rattle.std.proofs.Common.{◌≤◌, ◌+◌, ◌^◌, arith, refl}
use Rattle.std.proofs.lemmas.Grind.{common_steps}
use Rattle.pl_snap.specs.Calls.{is_goal, with_told}
use Rattle.pl_snap.proofs.Kept.{kept-told}
use Rattle.pl_snap.proofs.snap.Snap.put_outputs.Goals as goal

pub invariant_of-self-in-Ok : goal.invariant_of-self-in-Ok
invariant_of-self-in-Ok c =
    let a = c.self.inside in
    let below : a.next_stamp + 1 ≤ 2 ^ 62 = grind (arith, common_steps) in
    rw c.in-Ok.ensures.put (kept-told a.fresh a.rows a.base_pending a.own_pending a.next_stamp (is_goal c.args.goal) (with_told a.next_stamp c.args.outputs) (λ one. refl) below c.self.invariant)
