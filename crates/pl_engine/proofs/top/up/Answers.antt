use Rattle.std.proofs.Common.{refl}
use Rattle.pl_engine.proofs.Beginning.{worked-earlier}
use Rattle.pl_engine.proofs.top.up.Goals as goal

pub returns-in-Ok-clause-evidence : goal.returns-in-Ok-clause-evidence
returns-in-Ok-clause-evidence g c =
    worked-earlier _ _ c.read_base-content.ensures.faults_never_fall c.read_base-content.ensures.story refl refl
    _ _ _ _ c.start.ensures.evidence
