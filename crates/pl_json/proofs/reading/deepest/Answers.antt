use Rattle.std.proofs.Common.{refl}
use Rattle.pl_json.specs.Read.{deepest}
use Rattle.pl_json.proofs.reading.deepest.Goals as goal

pub returns : goal.returns
unfolding deepest
returns c = refl
