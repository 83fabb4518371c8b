use Rattle.std.proofs.Common.{◌∙◌}
use Rattle.pl_records.proofs.Newest.{has_reversed}
use Rattle.pl_records.proofs.index.has.Goals as goal

pub returns : goal.returns
returns c = c.contains.ensures ∙ has_reversed c.args.numbers.now.keys c.args.number
