use Rattle.std.proofs.Common.{◌∙◌, Option, ap₂, sym}
use Rattle.pl_events.specs.declared.operation.Op.{Op}
use Rattle.pl_events.specs.declared.operation.Source.{Source}
use Rattle.pl_due.specs.Now.{better, op_at}
use Rattle.pl_due.proofs.Folding.{fold_more}
use Rattle.pl_due.proofs.seen.Seen.best_of_kind.Goals as goal

pub loop-number-preserved : goal.loop-number-preserved
loop-number-preserved c =
    c.better-best.ensures
    ∙ ap₂ (λ (best : Option Source) (about : Op). better c.args.self.now best about) c.loop-number.invariant c.op_at.ensures
    ∙ sym (fold_more (better c.args.self.now) c.args.first (op_at c.args.kind) c.loop-number.number)
