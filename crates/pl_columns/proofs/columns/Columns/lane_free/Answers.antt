use Rattle.std.proofs.Common.{ℕ, Option, ◌∙◌, ap}
use Rattle.pl_events.specs.declared.operation.Source.{Source}
use Rattle.pl_columns.proofs.Told.{lane_told}
use Rattle.pl_columns.proofs.columns.Columns.lane_free.Goals as goal

pub returns : goal.returns
returns c = c.lane_free.ensures ∙ ap (λ (f : Source → Option ℕ). f c.args.source) (lane_told c.args.self.now)
