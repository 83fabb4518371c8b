use Rattle.std.proofs.Common.{refl}
use Rattle.pl_path.proofs.OnLiterals.{path_on_literals, value_equations}
use Rattle.pl_path.proofs.vectors.reset_element_vectors.Goals as goal

pub returns-clause-put : goal.returns-clause-put
unfolding path_on_literals
returns-clause-put c = simp value_equations refl

pub returns-clause-not_in_old : goal.returns-clause-not_in_old
unfolding path_on_literals
returns-clause-not_in_old c = simp value_equations refl

pub returns-clause-not_in_new : goal.returns-clause-not_in_new
unfolding path_on_literals
returns-clause-not_in_new c = simp value_equations refl

pub returns-clause-behind_element : goal.returns-clause-behind_element
unfolding path_on_literals
returns-clause-behind_element c = simp value_equations refl

pub returns-clause-deepest : goal.returns-clause-deepest
unfolding path_on_literals
returns-clause-deepest c = simp value_equations refl

pub returns-clause-too_deep : goal.returns-clause-too_deep
unfolding path_on_literals
returns-clause-too_deep c = simp value_equations refl
