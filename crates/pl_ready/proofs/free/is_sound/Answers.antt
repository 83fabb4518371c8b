use Rattle.std.proofs.Common.{subst}
use Rattle.pl_model.specs.Run.{rows_of}
use Rattle.pl_model.specs.declared.fixed.Fixed.{Fixed}
use Rattle.pl_sound.specs.Sound.{IsSound}
use Rattle.pl_ready.proofs.free.is_sound.Goals as goal

pub returns : goal.returns
returns c = subst (λ (run : Fixed). IsSound (rows_of run)) c.base.ensures c.is_sound.ensures
