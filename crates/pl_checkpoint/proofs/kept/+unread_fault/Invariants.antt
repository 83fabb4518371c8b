use Rattle.std.proofs.Common.{◌≡◌, ◌+◌, ◌*◌, drop}
use Rattle.serde_json.specs.View.{items_view, members_view}
use Rattle.pl_checkpoint_text.specs.ReadEntry.{items_fault, members_fault}
use Rattle.pl_checkpoint.proofs.kept.+unread_fault.Given as goal

-- a level below comes before each function at this one
abbrev pub decreases-unread_fault : goal.decreases-unread_fault
decreases-unread_fault l = 2 * l.levels

abbrev pub decreases-items_fault : goal.decreases-items_fault
decreases-items_fault l = 2 * l.levels + 1

abbrev pub decreases-members_fault : goal.decreases-members_fault
decreases-members_fault l = 2 * l.levels + 1

-- the first fault of all is that of what is left
abbrev pub invariant-items_fault-loop-place : goal.invariant-items_fault-loop-place
invariant-items_fault-loop-place l =
    items_fault l.levels 0 (items_view l.items) ≡ items_fault l.levels l.place (items_view (drop l.place l.items))

abbrev pub invariant-members_fault-loop-key : goal.invariant-members_fault-loop-key
invariant-members_fault-loop-key l =
    members_fault l.levels (members_view l.members.entries) ≡ members_fault l.levels (members_view l.key-iterator)
