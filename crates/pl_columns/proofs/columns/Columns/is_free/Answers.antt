use Rattle.std.proofs.Common.{ℕ, Bool, ◌∙◌, ap}
use Rattle.pl_columns.proofs.Told.{free_told}
use Rattle.pl_columns.proofs.columns.Columns.is_free.Goals as goal

pub returns : goal.returns
returns c = c.is_free.ensures ∙ ap (λ (f : ℕ → Bool). f c.args.lane) (free_told c.args.self.now)
