use Rattle.std.proofs.Common.{◌∙◌, sym}
use Rattle.pl_errands.proofs.Seen.{count_seen}
use Rattle.pl_errands.proofs.errands.Errands.lane_count.Goals as goal

pub returns : goal.returns
returns c =
    c.len.ensures ∙ c.self.inside.lanes.ok.0
    ∙ sym (count_seen c.self.inside c.self.invariant c.args.self.now c.self.view_is)
