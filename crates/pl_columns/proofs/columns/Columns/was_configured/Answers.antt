use Rattle.std.proofs.Common.{Bool, ◌∙◌, ap}
use Rattle.pl_events.specs.declared.operation.Source.{Source}
use Rattle.pl_columns.proofs.Told.{configured_told}
use Rattle.pl_columns.proofs.columns.Columns.was_configured.Goals as goal

pub returns : goal.returns
returns c = c.was_configured.ensures ∙ ap (λ (f : Source → Bool). f c.args.source) (configured_told c.args.self.now)
