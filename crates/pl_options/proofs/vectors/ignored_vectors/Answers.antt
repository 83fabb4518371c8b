use Rattle.std.proofs.Common.{refl}
use Rattle.pl_options.proofs.OnLiterals.{options_on_literals}
use Rattle.pl_path.proofs.OnLiterals.{value_equations}
use Rattle.pl_options.proofs.vectors.ignored_vectors.Goals as goal

pub returns : goal.returns
unfolding options_on_literals
returns c = simp value_equations refl
