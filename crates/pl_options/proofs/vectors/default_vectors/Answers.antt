use Rattle.std.proofs.Common.{refl}
use Rattle.pl_options.proofs.OnLiterals.{options_on_literals}
use Rattle.pl_options.proofs.vectors.default_vectors.Goals as goal

pub returns-clause-without_version : goal.returns-clause-without_version
unfolding options_on_literals
returns-clause-without_version c = refl

pub returns-clause-of_version : goal.returns-clause-of_version
unfolding options_on_literals
returns-clause-of_version c = refl

pub returns-clause-urn : goal.returns-clause-urn
unfolding options_on_literals
returns-clause-urn c = refl

pub returns-clause-told : goal.returns-clause-told
unfolding options_on_literals
returns-clause-told c = refl

pub returns-clause-other : goal.returns-clause-other
unfolding options_on_literals
returns-clause-other c = refl
