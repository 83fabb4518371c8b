use Rattle.std.proofs.Common.{◌∙◌, ◌&&◌, sym, ap}
use Rattle.std.specs.List.{list_any}
use Rattle.pl_errands.specs.Lanes.{is_coming_lane, is_from}
use Rattle.pl_errands.proofs.Seen.{coming_seen}
use Rattle.pl_errands.proofs.errands.Errands.has_coming.Goals as goal

pub returns : goal.returns
returns c =
    c.any_coming.ensures ∙ ap (list_any (λ lane. is_from c.args.source lane && is_coming_lane lane)) c.as_slice.ensures.value
    ∙ sym (coming_seen c.self.inside c.self.invariant c.args.self.now c.self.view_is c.args.source)
