use Rattle.pl_due.proofs.Taken.{other_taken, post_taken}
use Rattle.pl_due.proofs.seen.Seen.first_taken.Goals as goal

pub returns-in-Some : goal.returns-in-Some
returns-in-Some g c = post_taken c.args.self.now (g.L.LaneView.told c.args.lanes.now) c.in-Some.n c.in-Some.ensures

pub returns-in-None : goal.returns-in-None
returns-in-None g c =
    other_taken c.args.self.now (g.L.LaneView.told c.args.lanes.now) c.in-None.ensures c.other_taken.result c.other_taken.ensures
