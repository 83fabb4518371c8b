use Rattle.std.proofs.Common.{refl}
use Rattle.pl_urn.specs.Cut.{begins_with_cut, before_cut, after_cut}
use Rattle.pl_urn.specs.Grammar.{parts_of}
use Rattle.pl_decide.proofs.vectors.provider_urns.Goals as goal

pub returns-clause-provider : goal.returns-clause-provider
unfolding parts_of before_cut after_cut begins_with_cut
returns-clause-provider c = refl

pub returns-clause-default : goal.returns-clause-default
unfolding parts_of before_cut after_cut begins_with_cut
returns-clause-default c = refl

pub returns-clause-stack : goal.returns-clause-stack
unfolding parts_of before_cut after_cut begins_with_cut
returns-clause-stack c = refl
