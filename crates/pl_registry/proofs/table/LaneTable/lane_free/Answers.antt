use Rattle.std.proofs.Common.{◌≡◌, ◌∙◌, ap}
use Rattle.std.specs.Prelude.{position}
use Rattle.pl_registry.specs.Lanes.{Table, is_free_from}
use Rattle.pl_registry.proofs.Places.{lane_free_at}
use Rattle.pl_registry.proofs.table.LaneTable.lane_free.Goals as goal

pub returns-in_err-place : goal.returns-in_err-place
returns-in_err-place c =
    let lanes = c.args.self.now.lanes in
    let same : c.as_slice.result.now ≡ lanes = c.as_slice.ensures.value ∙ ap (λ (table : Table). table.lanes) c.self.view_is in
    c.from_residual.ensures ∙ c.in_err-place.ensures ∙ ap (position (is_free_from c.args.source)) same ∙ lane_free_at lanes c.args.source

pub returns : goal.returns
returns c =
    let lanes = c.args.self.now.lanes in
    let same : c.as_slice.result.now ≡ lanes = c.as_slice.ensures.value ∙ ap (λ (table : Table). table.lanes) c.self.view_is in
    c.in_ok-place.ensures ∙ ap (position (is_free_from c.args.source)) same ∙ lane_free_at lanes c.args.source
