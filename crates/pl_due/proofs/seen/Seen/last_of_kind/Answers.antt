use Rattle.std.proofs.Common.{◌≡◌, ◌∙◌, ◌-◌, true, false, ap, sym}
use Rattle.pl_due.specs.Now.{op_at, uses_now}
use Rattle.pl_due.proofs.Finding.{falling_found, falling_missed}
use Rattle.pl_due.proofs.seen.Seen.last_of_kind.Goals as goal

pub returns-then-uses_now : goal.returns-then-uses_now
returns-then-uses_now g c =
    let passes : uses_now c.args.self.now (g.L.LaneView.told c.args.lanes.now) (op_at c.args.kind (c.loop-left.left - 1)) ≡ true =
    ap (uses_now c.args.self.now (g.L.LaneView.told c.args.lanes.now)) (sym c.op_at.ensures) ∙ sym c.uses_now.ensures ∙ c.if-uses_now.true in
    sym (c.loop-left.invariant
    ∙ falling_found (λ number. uses_now c.args.self.now (g.L.LaneView.told c.args.lanes.now) (op_at c.args.kind number)) c.loop-left.left c.loop-left-test.true passes)

pub loop-left-preserved : goal.loop-left-preserved
loop-left-preserved g c =
    let fails : uses_now c.args.self.now (g.L.LaneView.told c.args.lanes.now) (op_at c.args.kind (c.loop-left.left - 1)) ≡ false =
    ap (uses_now c.args.self.now (g.L.LaneView.told c.args.lanes.now)) (sym c.op_at.ensures) ∙ sym c.uses_now.ensures ∙ c.if-uses_now.false in
    c.loop-left.invariant
    ∙ falling_missed (λ number. uses_now c.args.self.now (g.L.LaneView.told c.args.lanes.now) (op_at c.args.kind number)) c.loop-left.left c.loop-left-test.true fails
