use Rattle.std.proofs.Common.{refl}
use Rattle.pl_decide.proofs.vectors.references.Goals as goal

pub returns-clause-near : goal.returns-clause-near
returns-clause-near c = refl

pub returns-clause-through : goal.returns-clause-through
returns-clause-through c = refl

pub returns-clause-later : goal.returns-clause-later
returns-clause-later c = refl

pub returns-clause-provider : goal.returns-clause-provider
returns-clause-provider c = refl

pub returns-clause-unprovided : goal.returns-clause-unprovided
returns-clause-unprovided c = refl
