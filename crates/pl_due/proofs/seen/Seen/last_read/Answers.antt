use Rattle.std.proofs.Common.{◌∙◌, ℕ, find, option_map, reverse, ap}
use Rattle.std.specs.List.{range_with_len}
use Rattle.pl_due.specs.Now.{op_at, uses_now}
use Rattle.pl_due.specs.declared.kind.Kind.TheVariants as kind
use Rattle.pl_due.proofs.Sending.{reads_found}
use Rattle.pl_due.proofs.seen.Seen.last_read.Goals as goal

pub returns : goal.returns
returns g c =
    c.last_op.ensures
    ∙ ap (λ (n : ℕ). option_map (op_at kind.ReadRow) (find (λ number. uses_now c.args.self.now (g.L.LaneView.told c.args.lanes.now) (op_at kind.ReadRow number)) (reverse (range_with_len 0 n))))
    c.row_count.ensures
    ∙ reads_found c.args.self.now (g.L.LaneView.told c.args.lanes.now)
