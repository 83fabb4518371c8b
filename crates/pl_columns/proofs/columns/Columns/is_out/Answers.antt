use Rattle.std.proofs.Common.{ℕ, Bool, ◌∙◌, ap}
use Rattle.pl_columns.proofs.Told.{out_told}
use Rattle.pl_columns.proofs.columns.Columns.is_out.Goals as goal

pub returns : goal.returns
returns c = c.is_out.ensures ∙ ap (λ (f : ℕ → Bool). f c.args.lane) (out_told c.args.self.now)
