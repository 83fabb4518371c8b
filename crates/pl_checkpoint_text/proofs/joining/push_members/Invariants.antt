use Rattle.std.proofs.Common.{◌≡◌, ◌++◌, IsUtf8, false}
use Rattle.serde_json.specs.View.{members_view}
use Rattle.serde_json.specs.Written.{members_have_float}
use Rattle.pl_checkpoint_text.specs.Pieces.{fields_text}
use Rattle.pl_checkpoint_text.proofs.joining.push_members.Given as goal

-- what was added and what is left make the whole, and what was added is text
abbrev pub invariant-loop-key : goal.invariant-loop-key
invariant-loop-key l =
    (members_have_float (members_view l.members.entries) ≡ false
    → (l.out ++ fields_text l.entries l.pendings l.is_later (members_view l.key-iterator) ≡ l.initial.out ++ fields_text l.entries l.pendings false (members_view l.members.entries))
    × (members_have_float (members_view l.key-iterator) ≡ false))
    × (IsUtf8 l.initial.out → IsUtf8 l.out)
