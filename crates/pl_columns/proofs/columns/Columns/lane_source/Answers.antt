use Rattle.std.proofs.Common.{ℕ, Option, ◌∙◌, ap}
use Rattle.pl_events.specs.declared.operation.Source.{Source}
use Rattle.pl_columns.proofs.Told.{source_told}
use Rattle.pl_columns.proofs.columns.Columns.lane_source.Goals as goal

pub returns : goal.returns
returns c = c.lane_source.ensures ∙ ap (λ (f : ℕ → Option Source). f c.args.lane) (source_told c.args.self.now)
