use Rattle.std.proofs.Common.{◌∙◌, ℕ, Option, Some, option_map, ap}
use Rattle.pl_events.specs.declared.operation.Op.{Op}
use Rattle.pl_due.specs.Now.{check_op}
use Rattle.pl_due.proofs.Sending.{checks_found}
use Rattle.pl_due.proofs.seen.Seen.first_check.Goals as goal

pub returns-in-None : goal.returns-in-None
returns-in-None g c =
    ap (λ (o : Option ℕ). option_map (check_op c.args.self.now (g.L.LaneView.told c.args.lanes.now)) o) c.in-None.ensures
    ∙ checks_found c.args.self.now (g.L.LaneView.told c.args.lanes.now)

pub returns-in-Some : goal.returns-in-Some
returns-in-Some g c =
    ap (λ (about : Op). Some about) c.check_op.ensures
    ∙ ap (λ (o : Option ℕ). option_map (check_op c.args.self.now (g.L.LaneView.told c.args.lanes.now)) o) c.in-Some.ensures
    ∙ checks_found c.args.self.now (g.L.LaneView.told c.args.lanes.now)
