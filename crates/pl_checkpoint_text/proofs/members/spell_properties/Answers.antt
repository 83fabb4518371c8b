use Rattle.std.proofs.Common.{◌≡◌, map, ap, ◌∙◌}
use Rattle.serde_json.proofs.Views.{view-Array}
use Rattle.serde_json.specs.Data.{array, no_members, string}
use Rattle.serde_json.specs.View.{items_of, view}
use Rattle.serde_json.specs.declared.value.Value.{Array}
use Rattle.pl_json.specs.Objects.{texts_data}
use Rattle.pl_checkpoint_text.proofs.Fields.{with_properties-next}
use Rattle.pl_checkpoint_text.proofs.members.spell_properties.Goals as goal

pub loop-pair-preserved : goal.loop-pair-preserved
loop-pair-preserved c =
    let pair = c.pair-item.result in
    let list : view (Array c.in_ok-list.list) ≡ texts_data pair.1 =
    view-Array c.in_ok-list.list ∙ ap array (c.in_ok-list.ensures ∙ ap (λ urns. items_of (map string urns)) c.as_slice.ensures) in
    rw (c.in_ok-put.ensures.ok, c.as_str.ensures, list, c.loop-pair.invariant)
    (with_properties-next c.args.pairs.now c.loop-pair.pair-index pair no_members c.loop-pair-test.true c.pair-item.is)
