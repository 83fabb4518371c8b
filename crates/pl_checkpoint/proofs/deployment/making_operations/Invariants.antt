use Rattle.std.proofs.Common.{◌≡◌, ◌+◌, ◌≤◌, drop}
use Rattle.serde_json.specs.View.{items_view}
use Rattle.pl_checkpoint_text.specs.Read.{count_items, makes_one}
use Rattle.pl_checkpoint.proofs.deployment.making_operations.Given as goal

-- those that were counted and those that are left are all
abbrev pub invariant-loop-operation : goal.invariant-loop-operation
invariant-loop-operation l =
    (count_items makes_one (items_view l.operations) ≡ l.count + count_items makes_one (items_view (drop l.operation-index l.operations)))
    × (l.count ≤ l.operation-index)
