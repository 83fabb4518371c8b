use Rattle.std.proofs.Common.{◌∙◌, ℕ, List, length, ap}
use Rattle.pl_events.specs.declared.operation.Source.{Source}
use Rattle.pl_columns.proofs.Told.{lanes_told}
use Rattle.pl_columns.proofs.columns.Columns.lanes_from.Goals as goal

pub returns : goal.returns
returns c = c.lanes_from.ensures ∙ ap (λ (f : Source → List ℕ). length (f c.args.source)) (lanes_told c.args.self.now)
