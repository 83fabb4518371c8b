use Rattle.std.proofs.Common.{refl}
use Rattle.pl_urn.specs.Cut.{begins_with_cut, before_cut, after_cut}
use Rattle.pl_urn.specs.Grammar.{parts_of}
use Rattle.pl_decide.proofs.vectors.without_diff.Goals as goal

pub returns-clause-creates : goal.returns-clause-creates
unfolding parts_of before_cut after_cut begins_with_cut
returns-clause-creates c = refl

pub returns-clause-custom : goal.returns-clause-custom
unfolding parts_of before_cut after_cut begins_with_cut
returns-clause-custom c = refl

pub returns-clause-component : goal.returns-clause-component
unfolding parts_of before_cut after_cut begins_with_cut
returns-clause-component c = refl

pub returns-clause-component_changed : goal.returns-clause-component_changed
unfolding parts_of before_cut after_cut begins_with_cut
returns-clause-component_changed c = refl

pub returns-clause-provider : goal.returns-clause-provider
unfolding parts_of before_cut after_cut begins_with_cut
returns-clause-provider c = refl

pub returns-clause-other_provider : goal.returns-clause-other_provider
unfolding parts_of before_cut after_cut begins_with_cut
returns-clause-other_provider c = refl

pub returns-clause-asks : goal.returns-clause-asks
unfolding parts_of before_cut after_cut begins_with_cut
returns-clause-asks c = refl

pub returns-clause-asks_over_pending : goal.returns-clause-asks_over_pending
unfolding parts_of before_cut after_cut begins_with_cut
returns-clause-asks_over_pending c = refl

pub returns-clause-asks_nothing : goal.returns-clause-asks_nothing
unfolding parts_of before_cut after_cut begins_with_cut
returns-clause-asks_nothing c = refl
