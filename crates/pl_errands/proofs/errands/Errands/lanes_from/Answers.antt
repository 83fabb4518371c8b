use Rattle.std.proofs.Common.{◌∙◌, sym, ap}
use Rattle.std.specs.List.{count_by}
use Rattle.pl_errands.specs.Lanes.{is_from}
use Rattle.pl_errands.proofs.Seen.{lanes_seen}
use Rattle.pl_errands.proofs.errands.Errands.lanes_from.Goals as goal

pub returns : goal.returns
returns c =
    c.count_from.ensures ∙ ap (count_by (is_from c.args.source)) c.as_slice.ensures.value
    ∙ sym (lanes_seen c.self.inside c.self.invariant c.args.self.now c.self.view_is c.args.source)
