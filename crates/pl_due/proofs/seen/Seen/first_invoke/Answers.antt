use Rattle.std.proofs.Common.{◌∙◌, ℕ, Option, option_map, ap}
use Rattle.pl_events.specs.declared.operation.Op.TheVariants as op
use Rattle.pl_due.proofs.Sending.{invokes_found}
use Rattle.pl_due.proofs.seen.Seen.first_invoke.Goals as goal

pub returns-in-None : goal.returns-in-None
returns-in-None g c =
    ap (λ (o : Option ℕ). option_map op.Invoke o) c.in-None.ensures
    ∙ invokes_found c.args.self.now (g.L.LaneView.told c.args.lanes.now)

pub returns-in-Some : goal.returns-in-Some
returns-in-Some g c =
    ap (λ (o : Option ℕ). option_map op.Invoke o) c.in-Some.ensures
    ∙ invokes_found c.args.self.now (g.L.LaneView.told c.args.lanes.now)
