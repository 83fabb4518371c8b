use Rattle.std.proofs.Common.{◌∙◌}
use Rattle.pl_columns.proofs.Told.{next_told}
use Rattle.pl_columns.proofs.columns.Columns.next_ticket.Goals as goal

pub returns : goal.returns
returns c = c.next_ticket.ensures ∙ next_told c.args.self.now
