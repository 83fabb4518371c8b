use Rattle.std.proofs.Common.{refl}
use Rattle.pl_options.proofs.OnLiterals.{options_on_literals}
use Rattle.pl_options.proofs.vectors.refusal_vectors.Goals as goal

pub returns-clause-parent : goal.returns-clause-parent
unfolding options_on_literals
returns-clause-parent c = refl

pub returns-clause-provider : goal.returns-clause-provider
unfolding options_on_literals
returns-clause-provider c = refl

pub returns-clause-kind : goal.returns-clause-kind
unfolding options_on_literals
returns-clause-kind c = refl

pub returns-clause-name : goal.returns-clause-name
unfolding options_on_literals
returns-clause-name c = refl

pub returns-clause-path : goal.returns-clause-path
unfolding options_on_literals
returns-clause-path c = refl

pub returns-clause-version : goal.returns-clause-version
unfolding options_on_literals
returns-clause-version c = refl

pub returns-clause-provider_of_provider : goal.returns-clause-provider_of_provider
unfolding options_on_literals
returns-clause-provider_of_provider c = refl
