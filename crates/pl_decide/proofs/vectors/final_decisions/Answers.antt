use Rattle.std.proofs.Common.{refl}
use Rattle.pl_urn.specs.Cut.{begins_with_cut, before_cut, after_cut}
use Rattle.pl_urn.specs.Grammar.{parts_of}
use Rattle.pl_decide.proofs.vectors.final_decisions.Goals as goal

pub returns-clause-permitted : goal.returns-clause-permitted
unfolding parts_of before_cut after_cut begins_with_cut
returns-clause-permitted c = refl

pub returns-clause-unplanned : goal.returns-clause-unplanned
unfolding parts_of before_cut after_cut begins_with_cut
returns-clause-unplanned c = refl

pub returns-clause-created_first : goal.returns-clause-created_first
unfolding parts_of before_cut after_cut begins_with_cut
returns-clause-created_first c = refl
