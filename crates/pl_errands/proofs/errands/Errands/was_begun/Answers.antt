use Rattle.std.proofs.Common.{◌∙◌, sym}
use Rattle.pl_errands.proofs.Seen.{begun_seen}
use Rattle.pl_errands.proofs.errands.Errands.was_begun.Goals as goal

pub returns : goal.returns
returns c =
    c.has_op.ensures ∙ c.self.invariant.looked_up.begun c.args.op
    ∙ sym (begun_seen c.self.inside c.self.invariant c.args.self.now c.self.view_is c.args.op)
