use Rattle.std.proofs.Common.{◌≡◌, ◌∙◌, ap, length, nat_lt}
use Rattle.std.specs.Prelude.{count_by}
use Rattle.pl_registry.specs.Lanes.{Table, is_from, lanes_from}
use Rattle.pl_registry.proofs.Places.{lanes_counted}
use Rattle.pl_registry.proofs.table.LaneTable.may_start.Goals as goal

pub returns : goal.returns
returns c =
    let lanes = c.args.self.now.lanes in
    let same : c.as_slice.result.now ≡ lanes = c.as_slice.ensures.value ∙ ap (λ (table : Table). table.lanes) c.self.view_is in
    let counted : c.count_from.result ≡ length (lanes_from lanes c.args.source) = c.count_from.ensures ∙ ap (count_by (is_from c.args.source)) same ∙ lanes_counted lanes c.args.source in
    let parallel : c.self.inside.parallel ≡ c.args.self.now.parallel = ap (λ (table : Table). table.parallel) c.self.view_is in
    λ i. nat_lt (counted i) (parallel i)
