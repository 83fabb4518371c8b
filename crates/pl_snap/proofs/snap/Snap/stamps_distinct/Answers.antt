use Rattle.std.proofs.Common.{subst}
use Rattle.pl_snap.specs.Model.{Merged}
use Rattle.pl_snap.specs.Stamps.{AreBelow, AreDistinct, all_stamps}
use Rattle.pl_snap.proofs.Bearers.{below-all, distinct-all}
use Rattle.pl_snap.proofs.snap.Snap.stamps_distinct.Goals as goal

pub returns-clause-distinct : goal.returns-clause-distinct
returns-clause-distinct c =
    let a = c.self.inside in
    let merged : Merged = record { stack = a.stack; fresh = a.fresh; rows = a.rows; base_pending = a.base_pending; own_pending = a.own_pending; rest = a.rest; next_stamp = a.next_stamp } in
    subst (λ (m : Merged). AreDistinct (all_stamps m)) c.self.view_is (distinct-all merged c.self.invariant.once)

pub returns-clause-later_free : goal.returns-clause-later_free
returns-clause-later_free c =
    let a = c.self.inside in
    let merged : Merged = record { stack = a.stack; fresh = a.fresh; rows = a.rows; base_pending = a.base_pending; own_pending = a.own_pending; rest = a.rest; next_stamp = a.next_stamp } in
    subst (λ (m : Merged). AreBelow (all_stamps m) m.next_stamp) c.self.view_is (below-all merged a.next_stamp c.self.invariant.given)
