use Rattle.std.proofs.Common.{◌∙◌, ℕ, Bool, ap}
use Rattle.pl_columns.proofs.Told.{ticket_told}
use Rattle.pl_core.proofs.closing.lose_ticket.Goals as goal

pub lose-requires : goal.lose-requires
lose-requires c = ap (λ (f : ℕ → Bool). f c.args.ticket) (ticket_told c.args.columns.now) ∙ c.requires
