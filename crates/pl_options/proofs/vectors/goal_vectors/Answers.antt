use Rattle.std.proofs.Common.{refl}
use Rattle.pl_options.proofs.OnLiterals.{options_on_literals}
use Rattle.pl_options.proofs.vectors.goal_vectors.Goals as goal

pub returns-clause-plain : goal.returns-clause-plain
unfolding options_on_literals
returns-clause-plain c = refl

pub returns-clause-below : goal.returns-clause-below
unfolding options_on_literals
returns-clause-below c = refl

pub returns-clause-deleted_with : goal.returns-clause-deleted_with
unfolding options_on_literals
returns-clause-deleted_with c = refl

pub returns-clause-empty_texts : goal.returns-clause-empty_texts
unfolding options_on_literals
returns-clause-empty_texts c = refl

pub returns-clause-no_fault : goal.returns-clause-no_fault
unfolding options_on_literals
returns-clause-no_fault c = refl
