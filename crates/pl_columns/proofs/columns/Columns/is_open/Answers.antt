use Rattle.std.proofs.Common.{ℕ, Bool, ◌∙◌, ap}
use Rattle.pl_columns.proofs.Told.{ticket_told}
use Rattle.pl_columns.proofs.columns.Columns.is_open.Goals as goal

pub returns : goal.returns
returns c = c.is_open.ensures ∙ ap (λ (f : ℕ → Bool). f c.args.ticket) (ticket_told c.args.self.now)
