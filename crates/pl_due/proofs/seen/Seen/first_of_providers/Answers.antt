use Rattle.pl_model.specs.Due.{configures_of}
use Rattle.pl_due.specs.Now.{goal_ops, sends_now}
use Rattle.pl_due.specs.Seen.{known_in}
use Rattle.pl_due.proofs.Finding.{first_of, second_of}
use Rattle.pl_due.proofs.seen.Seen.first_of_providers.Goals as goal

pub returns-in-Some : goal.returns-in-Some
returns-in-Some g c =
    first_of (sends_now c.args.self.now (g.L.LaneView.told c.args.lanes.now)) (configures_of (known_in c.args.self.now)) (goal_ops (known_in c.args.self.now))
    c.in-Some.op (c.in-Some.ensures (g.L.LaneView.told c.args.lanes.now))

pub returns-in-None : goal.returns-in-None
returns-in-None g c =
    second_of (sends_now c.args.self.now (g.L.LaneView.told c.args.lanes.now)) (configures_of (known_in c.args.self.now)) (goal_ops (known_in c.args.self.now))
    c.first_of_goals.result (c.in-None.ensures (g.L.LaneView.told c.args.lanes.now)) c.first_of_goals.ensures
