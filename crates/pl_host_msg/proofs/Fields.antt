-- Empty lists and objects, beside the values that hold them.
use Rattle.std.proofs.Common.{tests, ◌≡◌, ◌==◌, List, [], ◌∷◌, length, Bool, IsTrue, ◌↔◌, refl, arith, rules, Global, String}
use Rattle.serde_json.specs.View.{items_view, members_view}
use Rattle.serde_json.specs.declared.value.Value.{Value}
use Rattle.pl_host_msg.specs.Field.{has_no_items, has_no_members}

pub has_no_items-items_view : (vs : List Value) → has_no_items (items_view vs) ≡ (length vs == 0)
has_no_items-items_view [] = refl
has_no_items-items_view (v ∷ vs) = search (rules, tests)

pub has_no_members-members_view : (ms : List (String Global × Value)) (b : Bool) → (IsTrue b ↔ (length ms ≡ 0)) → b ≡ has_no_members (members_view ms)
has_no_members-members_view [] b h = grind arith
has_no_members-members_view (m ∷ ms) b h = grind arith
