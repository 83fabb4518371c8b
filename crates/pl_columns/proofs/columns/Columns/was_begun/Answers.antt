use Rattle.std.proofs.Common.{Bool, ◌∙◌, ap}
use Rattle.pl_events.specs.declared.operation.Op.{Op}
use Rattle.pl_columns.proofs.Told.{begun_told}
use Rattle.pl_columns.proofs.columns.Columns.was_begun.Goals as goal

pub returns : goal.returns
returns c = c.was_begun.ensures ∙ ap (λ (f : Op → Bool). f c.args.op) (begun_told c.args.self.now)
