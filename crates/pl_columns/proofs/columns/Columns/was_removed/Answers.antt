use Rattle.std.proofs.Common.{◌∙◌, sym}
use Rattle.pl_columns.proofs.Read.{removed_read}
use Rattle.pl_columns.proofs.columns.Columns.was_removed.Goals as goal

pub returns : goal.returns
returns c = c.was_removed.ensures ∙ sym (removed_read c.args.self.now c.args.row)
