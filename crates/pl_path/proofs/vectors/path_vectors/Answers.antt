use Rattle.std.proofs.Common.{refl}
use Rattle.pl_path.proofs.OnLiterals.{path_on_literals}
use Rattle.pl_path.proofs.vectors.path_vectors.Goals as goal

pub returns-clause-mixed : goal.returns-clause-mixed
unfolding path_on_literals
returns-clause-mixed c = refl

pub returns-clause-brackets_first : goal.returns-clause-brackets_first
unfolding path_on_literals
returns-clause-brackets_first c = refl

pub returns-clause-greatest_index : goal.returns-clause-greatest_index
unfolding path_on_literals
returns-clause-greatest_index c = refl

pub returns-clause-escaped : goal.returns-clause-escaped
unfolding path_on_literals
returns-clause-escaped c = refl

pub returns-clause-star_in_name : goal.returns-clause-star_in_name
unfolding path_on_literals
returns-clause-star_in_name c = refl

pub returns-clause-told : goal.returns-clause-told
unfolding path_on_literals
returns-clause-told c = refl
