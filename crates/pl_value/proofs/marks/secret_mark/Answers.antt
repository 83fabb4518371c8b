use Rattle.std.proofs.Common.{refl}
use Rattle.pl_value.specs.Marks.{secret_mark}
use Rattle.pl_value.proofs.marks.secret_mark.Goals as goal

pub returns : goal.returns
unfolding secret_mark
returns c = refl
