use Rattle.std.proofs.Common.{refl}
use Rattle.pl_urn.specs.Cut.{begins_with_cut, before_cut, after_cut}
use Rattle.pl_urn.specs.Grammar.{parts_of}
use Rattle.pl_decide.proofs.vectors.reading_and_importing.Goals as goal

pub returns-clause-reads : goal.returns-clause-reads
unfolding parts_of before_cut after_cut begins_with_cut
returns-clause-reads c = refl

pub returns-clause-managed : goal.returns-clause-managed
unfolding parts_of before_cut after_cut begins_with_cut
returns-clause-managed c = refl

pub returns-clause-external : goal.returns-clause-external
unfolding parts_of before_cut after_cut begins_with_cut
returns-clause-external c = refl

pub returns-clause-over_external : goal.returns-clause-over_external
unfolding parts_of before_cut after_cut begins_with_cut
returns-clause-over_external c = refl

pub returns-clause-pending : goal.returns-clause-pending
unfolding parts_of before_cut after_cut begins_with_cut
returns-clause-pending c = refl

pub returns-clause-over_pending : goal.returns-clause-over_pending
unfolding parts_of before_cut after_cut begins_with_cut
returns-clause-over_pending c = refl

pub returns-clause-imports : goal.returns-clause-imports
unfolding parts_of before_cut after_cut begins_with_cut
returns-clause-imports c = refl

pub returns-clause-other_id : goal.returns-clause-other_id
unfolding parts_of before_cut after_cut begins_with_cut
returns-clause-other_id c = refl

pub returns-clause-own_id : goal.returns-clause-own_id
unfolding parts_of before_cut after_cut begins_with_cut
returns-clause-own_id c = refl
