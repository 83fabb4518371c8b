use Rattle.std.proofs.Common.{refl}
use Rattle.pl_urn.specs.Cut.{begins_with_cut, before_cut, after_cut}
use Rattle.pl_urn.specs.Grammar.{parts_of}
use Rattle.pl_decide.proofs.vectors.refusals.Goals as goal

pub returns-clause-goal : goal.returns-clause-goal
unfolding parts_of before_cut after_cut begins_with_cut
returns-clause-goal c = refl

pub returns-clause-claim : goal.returns-clause-claim
unfolding parts_of before_cut after_cut begins_with_cut
returns-clause-claim c = refl

pub returns-clause-permitted : goal.returns-clause-permitted
unfolding parts_of before_cut after_cut begins_with_cut
returns-clause-permitted c = refl

pub returns-clause-unplanned : goal.returns-clause-unplanned
unfolding parts_of before_cut after_cut begins_with_cut
returns-clause-unplanned c = refl

pub returns-clause-claimed : goal.returns-clause-claimed
unfolding parts_of before_cut after_cut begins_with_cut
returns-clause-claimed c = refl
