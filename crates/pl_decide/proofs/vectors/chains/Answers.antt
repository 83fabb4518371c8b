use Rattle.std.proofs.Common.{refl}
use Rattle.pl_decide.proofs.vectors.chains.Goals as goal

pub returns-clause-thing : goal.returns-clause-thing
returns-clause-thing c = refl

pub returns-clause-provider : goal.returns-clause-provider
returns-clause-provider c = refl

pub returns-clause-double : goal.returns-clause-double
returns-clause-double c = refl

pub returns-clause-last : goal.returns-clause-last
returns-clause-last c = refl

pub returns-clause-missing : goal.returns-clause-missing
returns-clause-missing c = refl
