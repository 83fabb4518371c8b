use Rattle.std.proofs.Common.{◌≡◌, ◌∙◌, None, Some, sym, ap}
use Rattle.std.specs.List.{slice_get}
use Rattle.pl_lemmas.specs.Words.{some_passes}
use Rattle.pl_errands.specs.Lanes.{is_free_lane}
use Rattle.pl_errands.proofs.Seen.{free_seen}
use Rattle.pl_errands.proofs.errands.Errands.is_free.Goals as goal

pub returns-in-None : goal.returns-in-None
returns-in-None c =
    let here : slice_get c.self.inside.lanes.items c.args.lane ≡ None =
    ap (λ items. slice_get items c.args.lane) (sym c.as_slice.ensures.value) ∙ sym c.lane_at.ensures ∙ c.in-None.is in
    sym (free_seen c.self.inside c.self.invariant c.args.self.now c.self.view_is c.args.lane ∙ ap (some_passes (is_free_lane)) here)

pub returns-in-Some : goal.returns-in-Some
returns-in-Some c =
    let here : slice_get c.self.inside.lanes.items c.args.lane ≡ Some c.in-Some.lane =
    ap (λ items. slice_get items c.args.lane) (sym c.as_slice.ensures.value) ∙ sym c.lane_at.ensures ∙ c.in-Some.is in
    c.is_free.ensures ∙ sym (free_seen c.self.inside c.self.invariant c.args.self.now c.self.view_is c.args.lane ∙ ap (some_passes (is_free_lane)) here)
