use Rattle.std.proofs.Common.{refl}
use Rattle.pl_path.proofs.OnLiterals.{path_on_literals, value_equations}
use Rattle.pl_path.proofs.vectors.found_vectors.Goals as goal

pub returns-clause-in_list : goal.returns-clause-in_list
unfolding path_on_literals
returns-clause-in_list c = simp value_equations refl

pub returns-clause-through_secrets : goal.returns-clause-through_secrets
unfolding path_on_literals
returns-clause-through_secrets c = simp value_equations refl

pub returns-clause-no_element : goal.returns-clause-no_element
unfolding path_on_literals
returns-clause-no_element c = simp value_equations refl

pub returns-clause-key_of_list : goal.returns-clause-key_of_list
unfolding path_on_literals
returns-clause-key_of_list c = simp value_equations refl

pub returns-clause-index_of_fields : goal.returns-clause-index_of_fields
unfolding path_on_literals
returns-clause-index_of_fields c = refl
