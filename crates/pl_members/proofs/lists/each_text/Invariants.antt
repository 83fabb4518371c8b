use Rattle.std.proofs.Common.{◌≡◌, drop}
use Rattle.serde_json.specs.Find.{as_str}
use Rattle.serde_json.specs.View.{items_view}
use Rattle.pl_members.specs.Field.{each_item}
use Rattle.pl_members.proofs.Items.{after}
use Rattle.pl_members.proofs.lists.each_text.Given as goal

-- what is read of the whole is what was read of the first ones, and then the rest
abbrev pub invariant-loop-item : goal.invariant-loop-item
invariant-loop-item l = each_item as_str (items_view l.items) ≡ after l.texts (each_item as_str (items_view (drop l.item-index l.items)))
