use Rattle.std.proofs.Common.{◌∙◌, sym}
use Rattle.pl_model.specs.Due.{is_drop_ready}
use Rattle.pl_due.specs.Seen.{known_in}
use Rattle.pl_due.proofs.Finding.{falling_found, falling_missed}
use Rattle.pl_due.proofs.seen.Seen.last_drop.Goals as goal

pub returns-then-is_dropped : goal.returns-then-is_dropped
returns-then-is_dropped c =
    sym (c.loop-left.invariant
    ∙ falling_found (is_drop_ready (known_in c.args.self.now)) c.loop-left.left c.loop-left-test.true
    (sym c.is_dropped.ensures ∙ c.if-is_dropped.true))

pub loop-left-preserved : goal.loop-left-preserved
loop-left-preserved c =
    c.loop-left.invariant
    ∙ falling_missed (is_drop_ready (known_in c.args.self.now)) c.loop-left.left c.loop-left-test.true
    (sym c.is_dropped.ensures ∙ c.if-is_dropped.false)
