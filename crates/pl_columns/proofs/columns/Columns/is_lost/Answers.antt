use Rattle.std.proofs.Common.{ℕ, Bool, ◌∙◌, ap}
use Rattle.pl_columns.proofs.Told.{lost_told}
use Rattle.pl_columns.proofs.columns.Columns.is_lost.Goals as goal

pub returns : goal.returns
returns c = c.is_lost.ensures ∙ ap (λ (f : ℕ → Bool). f c.args.lane) (lost_told c.args.self.now)
