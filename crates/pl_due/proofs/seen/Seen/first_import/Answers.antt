use Rattle.std.proofs.Common.{◌∙◌, ℕ, find, length, option_map, ap}
use Rattle.std.specs.List.{range_with_len}
use Rattle.pl_model.specs.declared.fixed.Fixed.{Fixed}
use Rattle.pl_due.specs.Now.{op_at, uses_now}
use Rattle.pl_due.specs.declared.kind.Kind.TheVariants as kind
use Rattle.pl_due.proofs.Sending.{imports_found}
use Rattle.pl_due.proofs.seen.Seen.first_import.Goals as goal

pub returns : goal.returns
returns g c =
    c.first_op.ensures
    ∙ ap (λ (n : ℕ). option_map (op_at kind.Import) (find (λ number. uses_now c.args.self.now (g.L.LaneView.told c.args.lanes.now) (op_at kind.Import number)) (range_with_len 0 n)))
    (c.len-count.ensures ∙ ap (λ (run : Fixed). length run.base.pending) c.run.ensures)
    ∙ imports_found c.args.self.now (g.L.LaneView.told c.args.lanes.now)
