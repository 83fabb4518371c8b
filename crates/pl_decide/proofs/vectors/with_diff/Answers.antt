use Rattle.std.proofs.Common.{refl}
use Rattle.pl_urn.specs.Cut.{begins_with_cut, before_cut, after_cut}
use Rattle.pl_urn.specs.Grammar.{parts_of}
use Rattle.pl_decide.proofs.vectors.with_diff.Goals as goal

pub returns-clause-none : goal.returns-clause-none
unfolding parts_of before_cut after_cut begins_with_cut
returns-clause-none c = refl

pub returns-clause-half_made : goal.returns-clause-half_made
unfolding parts_of before_cut after_cut begins_with_cut
returns-clause-half_made c = refl

pub returns-clause-not_known : goal.returns-clause-not_known
unfolding parts_of before_cut after_cut begins_with_cut
returns-clause-not_known c = refl

pub returns-clause-not_known_changed : goal.returns-clause-not_known_changed
unfolding parts_of before_cut after_cut begins_with_cut
returns-clause-not_known_changed c = refl

pub returns-clause-some : goal.returns-clause-some
unfolding parts_of before_cut after_cut begins_with_cut
returns-clause-some c = refl

pub returns-clause-replaces_first : goal.returns-clause-replaces_first
unfolding parts_of before_cut after_cut begins_with_cut
returns-clause-replaces_first c = refl

pub returns-clause-deletes_first : goal.returns-clause-deletes_first
unfolding parts_of before_cut after_cut begins_with_cut
returns-clause-deletes_first c = refl

pub returns-clause-as_the_goal_says : goal.returns-clause-as_the_goal_says
unfolding parts_of before_cut after_cut begins_with_cut
returns-clause-as_the_goal_says c = refl

pub returns-clause-protected : goal.returns-clause-protected
unfolding parts_of before_cut after_cut begins_with_cut
returns-clause-protected c = refl
