use Rattle.std.proofs.Common.{◌≡◌, ap, ◌∙◌}
use Rattle.serde_json.specs.Data.{no_members}
use Rattle.serde_json.specs.View.{view}
use Rattle.pl_json.specs.Objects.{texts_data}
use Rattle.pl_members.proofs.InPlace.{with_keyed-next}
use Rattle.pl_members.proofs.writing.spell_keyed.Goals as goal

pub loop-pair-preserved : goal.loop-pair-preserved
loop-pair-preserved c =
    let pair = c.pair-item.result in
    let list : view c.in_ok-list.list ≡ texts_data pair.1 = c.in_ok-list.ensures ∙ ap texts_data c.as_slice.ensures in
    rw (c.in_ok-put.ensures.ok, c.as_str.ensures, list, c.loop-pair.invariant)
    (with_keyed-next c.args.pairs.now c.loop-pair.pair-index pair no_members c.loop-pair-test.true c.pair-item.is)
