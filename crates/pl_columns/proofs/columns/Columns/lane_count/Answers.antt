use Rattle.std.proofs.Common.{◌∙◌}
use Rattle.pl_columns.proofs.Told.{count_told}
use Rattle.pl_columns.proofs.columns.Columns.lane_count.Goals as goal

pub returns : goal.returns
returns c = c.lane_count.ensures ∙ count_told c.args.self.now
