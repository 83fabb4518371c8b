use Rattle.pl_snap.specs.Rows.{is_row}
use Rattle.pl_snap.proofs.Kept.{kept-retired}
use Rattle.pl_snap.proofs.snap.Snap.retire.Goals as goal

pub invariant_of-self : goal.invariant_of-self
invariant_of-self c =
    let a = c.self.inside in
    rw c.retire.ensures (kept-retired a.fresh a.rows a.base_pending a.own_pending a.next_stamp (is_row c.args.row) c.self.invariant)
