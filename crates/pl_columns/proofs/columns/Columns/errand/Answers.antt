use Rattle.std.proofs.Common.{ℕ, Option, ◌∙◌, ap}
use Rattle.pl_model.specs.declared.errand.Errand.{Errand}
use Rattle.pl_columns.proofs.Told.{errand_told}
use Rattle.pl_columns.proofs.columns.Columns.errand.Goals as goal

pub returns : goal.returns
returns c = c.errand.ensures ∙ ap (λ (f : ℕ → Option Errand). f c.args.ticket) (errand_told c.args.self.now)
