use Rattle.std.proofs.Common.{◌∙◌, ◌&&◌, sym, ap}
use Rattle.std.specs.List.{list_any}
use Rattle.pl_errands.specs.Lanes.{is_from}
use Rattle.pl_errands.proofs.Seen.{was_configured_seen}
use Rattle.pl_errands.proofs.errands.Errands.was_configured.Goals as goal

pub returns : goal.returns
returns c =
    c.any_configured.ensures ∙ ap (list_any (λ lane. is_from c.args.source lane && lane.configured)) c.as_slice.ensures.value
    ∙ sym (was_configured_seen c.self.inside c.self.invariant c.args.self.now c.self.view_is c.args.source)
