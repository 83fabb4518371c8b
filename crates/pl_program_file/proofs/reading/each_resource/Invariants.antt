use Rattle.std.proofs.Common.{◌≡◌, drop}
use Rattle.serde_json.specs.View.{items_view}
use Rattle.pl_members.specs.Field.{each_item}
use Rattle.pl_program_file.specs.Read.{resource_read}
use Rattle.pl_members.proofs.Items.{after}
use Rattle.pl_program_file.proofs.reading.each_resource.Given as goal

-- what is read of the whole is what was read of the first ones, and then the rest
abbrev pub invariant-loop-item : goal.invariant-loop-item
invariant-loop-item l = each_item resource_read (items_view l.items) ≡ after l.resources (each_item resource_read (items_view (drop l.item-index l.items)))
