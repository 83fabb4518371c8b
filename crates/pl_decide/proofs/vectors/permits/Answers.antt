use Rattle.std.proofs.Common.{refl}
use Rattle.pl_urn.specs.Cut.{begins_with_cut, before_cut, after_cut}
use Rattle.pl_urn.specs.Grammar.{parts_of}
use Rattle.pl_decide.proofs.vectors.permits.Goals as goal

pub returns-clause-unlimited : goal.returns-clause-unlimited
unfolding parts_of before_cut after_cut begins_with_cut
returns-clause-unlimited c = refl

pub returns-clause-other : goal.returns-clause-other
unfolding parts_of before_cut after_cut begins_with_cut
returns-clause-other c = refl

pub returns-clause-keeps : goal.returns-clause-keeps
unfolding parts_of before_cut after_cut begins_with_cut
returns-clause-keeps c = refl

pub returns-clause-component : goal.returns-clause-component
unfolding parts_of before_cut after_cut begins_with_cut
returns-clause-component c = refl

pub returns-clause-default : goal.returns-clause-default
unfolding parts_of before_cut after_cut begins_with_cut
returns-clause-default c = refl

pub returns-clause-planned : goal.returns-clause-planned
unfolding parts_of before_cut after_cut begins_with_cut
returns-clause-planned c = refl

pub returns-clause-unplanned : goal.returns-clause-unplanned
unfolding parts_of before_cut after_cut begins_with_cut
returns-clause-unplanned c = refl

pub returns-clause-replaced : goal.returns-clause-replaced
unfolding parts_of before_cut after_cut begins_with_cut
returns-clause-replaced c = refl

pub returns-clause-chained : goal.returns-clause-chained
unfolding parts_of before_cut after_cut begins_with_cut
returns-clause-chained c = refl

pub returns-clause-claimed : goal.returns-clause-claimed
unfolding parts_of before_cut after_cut begins_with_cut
returns-clause-claimed c = refl

pub returns-clause-left : goal.returns-clause-left
unfolding parts_of before_cut after_cut begins_with_cut
returns-clause-left c = refl

pub returns-clause-name : goal.returns-clause-name
unfolding parts_of before_cut after_cut begins_with_cut
returns-clause-name c = refl
