use Rattle.std.proofs.Common.{◌≡◌, ℕ, List, ◌++◌, Bor, map}
use Rattle.serde_json.proofs.Views.{Entry}
use Rattle.serde_json.specs.View.{members_view}
use Rattle.pl_checkpoint_text.specs.ReadEntry.{other_members}
use Rattle.pl_checkpoint.proofs.kept.other_members.Given as goal

-- of the first ones those that are not read were put in
abbrev pub invariant-loop-key : goal.invariant-loop-key
invariant-loop-key l =
    (done : List Entry) × (l.members.entries ≡ done ++ l.key-iterator)
    × (members_view l.others.entries ≡ other_members (map (λ (own : Bor (List ℕ)). own.now) l.keys) (members_view done))
