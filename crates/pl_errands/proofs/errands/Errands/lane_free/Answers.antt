use Rattle.std.proofs.Common.{◌∙◌, ◌&&◌, sym, ap}
use Rattle.std.specs.List.{position}
use Rattle.pl_errands.specs.Lanes.{is_free_lane, is_from}
use Rattle.pl_errands.proofs.Seen.{first_free_seen}
use Rattle.pl_errands.proofs.errands.Errands.lane_free.Goals as goal

pub returns-in_err-place : goal.returns-in_err-place
returns-in_err-place c =
    c.from_residual.ensures ∙ c.in_err-place.ensures
    ∙ ap (position (λ lane. is_from c.args.source lane && is_free_lane lane)) c.as_slice.ensures.value
    ∙ sym (first_free_seen c.self.inside c.self.invariant c.args.self.now c.self.view_is c.args.source)

pub returns : goal.returns
returns c =
    c.in_ok-place.ensures
    ∙ ap (position (λ lane. is_from c.args.source lane && is_free_lane lane)) c.as_slice.ensures.value
    ∙ sym (first_free_seen c.self.inside c.self.invariant c.args.self.now c.self.view_is c.args.source)
