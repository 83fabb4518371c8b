use Rattle.std.proofs.Common.{refl}
use Rattle.pl_options.proofs.OnLiterals.{options_on_literals}
use Rattle.pl_options.proofs.vectors.id_vectors.Goals as goal

pub returns-clause-one : goal.returns-clause-one
unfolding options_on_literals
returns-clause-one c = refl

pub returns-clause-all_bits : goal.returns-clause-all_bits
unfolding options_on_literals
returns-clause-all_bits c = refl
