use Rattle.std.proofs.Common.{refl}
use Rattle.pl_value.specs.Marks.{unknown_text}
use Rattle.pl_value.proofs.marks.unknown_text.Goals as goal

pub returns : goal.returns
unfolding unknown_text
returns c = refl
