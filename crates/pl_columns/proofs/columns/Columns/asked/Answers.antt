use Rattle.std.proofs.Common.{refl}
use Rattle.pl_columns.specs.Read.{known_by}
use Rattle.pl_columns.proofs.columns.Columns.asked.Goals as goal

pub returns : goal.returns
returns c = c.asked.ensures (known_by c.args.self.now) refl
