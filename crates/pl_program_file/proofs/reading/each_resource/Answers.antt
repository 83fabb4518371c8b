use Rattle.std.proofs.Common.{◌+◌, drop, sym, ap, ◌∙◌}
use Rattle.serde_json.specs.View.{view, items_view}
use Rattle.pl_members.proofs.Items.{after}
use Rattle.pl_program_file.proofs.OneByOne.{read_next}
use Rattle.pl_members.specs.Field.{each_item}
use Rattle.pl_program_file.specs.Read.{resource_read}
use Rattle.pl_program_file.proofs.reading.each_resource.Goals as goal

pub loop-item-preserved : goal.loop-item-preserved
loop-item-preserved c =
    let at = c.loop-item.item-index in
    c.loop-item.invariant
    ∙ read_next resource_read c.args.items.now at c.item-item.result c.loop-item.resources c.in_ok-resource_read.field-0 c.loop-item-test.true
    (ap (λ one. resource_read (view one)) (sym c.item-item.is) ∙ c.in_ok-resource_read.ensures.read)
    ∙ ap (λ made. after made (each_item resource_read (items_view (drop (at + 1) c.args.items.now)))) (sym c.in_ok-push.ensures.added)
