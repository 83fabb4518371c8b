use Rattle.std.proofs.Common.{◌∙◌, sym}
use Rattle.pl_columns.proofs.Read.{recorded_read}
use Rattle.pl_columns.proofs.columns.Columns.is_recorded.Goals as goal

pub returns : goal.returns
returns c = c.is_recorded.ensures ∙ sym (recorded_read c.args.self.now c.args.goal)
