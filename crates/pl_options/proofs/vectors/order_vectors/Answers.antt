use Rattle.std.proofs.Common.{refl}
use Rattle.pl_options.proofs.OnLiterals.{options_on_literals}
use Rattle.pl_options.proofs.vectors.order_vectors.Goals as goal

pub returns-clause-references : goal.returns-clause-references
unfolding options_on_literals
returns-clause-references c = refl

pub returns-clause-deleter_before_alias : goal.returns-clause-deleter_before_alias
unfolding options_on_literals
returns-clause-deleter_before_alias c = refl

pub returns-clause-deleter_after_property : goal.returns-clause-deleter_after_property
unfolding options_on_literals
returns-clause-deleter_after_property c = refl

pub returns-clause-alias_last : goal.returns-clause-alias_last
unfolding options_on_literals
returns-clause-alias_last c = refl

pub returns-clause-reference_first : goal.returns-clause-reference_first
unfolding options_on_literals
returns-clause-reference_first c = refl

pub returns-clause-path_before_version : goal.returns-clause-path_before_version
unfolding options_on_literals
returns-clause-path_before_version c = refl
