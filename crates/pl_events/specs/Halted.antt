-- The answer of a request that is not taken up.
use Rattle.std.specs.Prelude.{codes}
use Rattle.pl_events.specs.declared.event.Answer.{Answer}
use Rattle.pl_events.specs.declared.event.Answer.TheVariants.{Refused}

-- the answer of a request without a result
abbrev pub halted : Answer
halted = Refused (codes "halted")
