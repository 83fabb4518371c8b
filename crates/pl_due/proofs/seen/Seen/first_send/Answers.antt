use Rattle.pl_model.specs.Due.{deletes_of}
use Rattle.pl_due.specs.Now.{provider_ops, sends_now}
use Rattle.pl_due.specs.Seen.{known_in}
use Rattle.pl_due.proofs.Finding.{first_of, second_of}
use Rattle.pl_due.proofs.seen.Seen.first_send.Goals as goal

pub returns-in-Some : goal.returns-in-Some
returns-in-Some g c =
    first_of (sends_now c.args.self.now (g.L.LaneView.told c.args.lanes.now)) (deletes_of (known_in c.args.self.now)) (provider_ops (known_in c.args.self.now))
    c.in-Some.op c.in-Some.ensures

pub returns-in-None : goal.returns-in-None
returns-in-None g c =
    second_of (sends_now c.args.self.now (g.L.LaneView.told c.args.lanes.now)) (deletes_of (known_in c.args.self.now)) (provider_ops (known_in c.args.self.now))
    c.first_of_providers.result c.in-None.ensures c.first_of_providers.ensures
