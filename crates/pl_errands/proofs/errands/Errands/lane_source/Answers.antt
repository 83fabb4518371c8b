use Rattle.std.proofs.Common.{◌≡◌, ◌∙◌, None, Some, option_and_then, sym, ap}
use Rattle.std.specs.List.{slice_get}
use Rattle.pl_errands.proofs.Seen.{source_seen}
use Rattle.pl_errands.proofs.errands.Errands.lane_source.Goals as goal

pub returns-in_err-lane : goal.returns-in_err-lane
returns-in_err-lane c =
    let here : slice_get c.self.inside.lanes.items c.args.lane ≡ None =
    ap (λ items. slice_get items c.args.lane) (sym c.as_slice.ensures.value) ∙ sym c.lane_at.ensures ∙ c.in_err-lane.was in
    c.from_residual.ensures
    ∙ sym (source_seen c.self.inside c.self.invariant c.args.self.now c.self.view_is c.args.lane ∙ ap (option_and_then (λ one. one.source)) here)

pub returns : goal.returns
returns c =
    let here : slice_get c.self.inside.lanes.items c.args.lane ≡ Some c.in_ok-lane.lane =
    ap (λ items. slice_get items c.args.lane) (sym c.as_slice.ensures.value) ∙ sym c.lane_at.ensures ∙ c.in_ok-lane.was in
    sym (source_seen c.self.inside c.self.invariant c.args.self.now c.self.view_is c.args.lane ∙ ap (option_and_then (λ one. one.source)) here)
