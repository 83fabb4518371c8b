use Rattle.std.proofs.Common.{◌≡◌, drop}
use Rattle.serde_json.specs.View.{items_view, members_view}
use Rattle.pl_checkpoint_text.specs.Formed.{items_have_wholes, members_have_wholes}
use Rattle.pl_checkpoint.proofs.version.+has_wholes.Given as goal

-- whether all have whole numbers is whether those that are left have
abbrev pub invariant-items_have_wholes-loop-item : goal.invariant-items_have_wholes-loop-item
invariant-items_have_wholes-loop-item l = items_have_wholes (items_view l.items) ≡ items_have_wholes (items_view (drop l.item-index l.items))

abbrev pub invariant-members_have_wholes-loop-key : goal.invariant-members_have_wholes-loop-key
invariant-members_have_wholes-loop-key l = members_have_wholes (members_view l.members.entries) ≡ members_have_wholes (members_view l.key-iterator)
