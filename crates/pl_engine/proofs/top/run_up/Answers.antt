use Rattle.std.proofs.Common.{map, refl, string_bytes}
use Rattle.pl_engine.proofs.Evident.{evident}
use Rattle.pl_engine.proofs.top.run_up.Goals as goal

pub returns-in-Ok-clause-evidence : goal.returns-in-Ok-clause-evidence
returns-in-Ok-clause-evidence g c =
    evident (map string_bytes c.args.words.now) c.requires c.in-Ok.run' c.in-Ok.ensures.host c.in-Ok.ensures.stack_scope c.in-Ok.ensures.project_scope _
    (record { accepted = c.requires.accepted; stack = c.in-Ok.ensures.stack; project = c.in-Ok.ensures.project; name = refl; rest = refl })
    _ c.up.ensures.evidence
