use Rattle.std.proofs.Common.{refl}
use Rattle.pl_value.specs.Marks.{secret_key}
use Rattle.pl_value.proofs.marks.secret_key.Goals as goal

pub returns : goal.returns
unfolding secret_key
returns c = refl
