use Rattle.std.proofs.Common.{arith}
use Rattle.std.proofs.lemmas.Grind.{text_groups}
use Rattle.pl_base.proofs.dependents.add_place.Goals as goal

pub returns : goal.returns
returns c = grind (arith, text_groups)
