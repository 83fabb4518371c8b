use Rattle.std.proofs.Common.{◌≡◌, List, ◌++◌, take, false}
use Rattle.serde_json.specs.View.{items_view, members_view}
use Rattle.serde_json.specs.Written.{items_have_float, members_have_float}
use Rattle.serde_json.proofs.Views.{Entry}
use Rattle.pl_checkpoint_text.proofs.unread.+has_float.Given as goal

-- none of the first ones has a float
abbrev pub invariant-any_has_float-loop-item : goal.invariant-any_has_float-loop-item
invariant-any_has_float-loop-item l = items_have_float (items_view (take l.item-index l.items)) ≡ false

abbrev pub invariant-have_float-loop-key : goal.invariant-have_float-loop-key
invariant-have_float-loop-key l =
    (done : List Entry) × (l.members.entries ≡ done ++ l.key-iterator) × (members_have_float (members_view done) ≡ false)
