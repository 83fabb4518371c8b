use Rattle.pl_snap.specs.Rows.{is_waiting}
use Rattle.pl_snap.proofs.Kept.{kept-cleared}
use Rattle.pl_snap.proofs.snap.Snap.clear_base.Goals as goal

pub invariant_of-self : goal.invariant_of-self
invariant_of-self c =
    let a = c.self.inside in
    rw c.remove.ensures (kept-cleared a.fresh a.rows a.base_pending a.own_pending a.next_stamp (is_waiting c.args.at) c.self.invariant)
