use Rattle.std.proofs.Common.{◌∙◌, sym}
use Rattle.pl_columns.proofs.Read.{cleared_read}
use Rattle.pl_columns.proofs.columns.Columns.was_cleared.Goals as goal

pub returns : goal.returns
returns c = c.was_cleared.ensures ∙ sym (cleared_read c.args.self.now c.args.at)
