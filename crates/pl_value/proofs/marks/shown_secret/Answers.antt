use Rattle.std.proofs.Common.{refl}
use Rattle.pl_value.specs.Marks.{shown_secret}
use Rattle.pl_value.proofs.marks.shown_secret.Goals as goal

pub returns : goal.returns
unfolding shown_secret
returns c = refl
