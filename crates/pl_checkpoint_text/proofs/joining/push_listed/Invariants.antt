use Rattle.std.proofs.Common.{◌≡◌, ◌++◌, IsUtf8, false, drop}
use Rattle.pl_checkpoint_text.specs.Pieces.{listed}
use Rattle.pl_checkpoint_text.proofs.joining.push_listed.Given as goal

-- what was added and what is left make the whole, and what was added is text
abbrev pub invariant-loop-text : goal.invariant-loop-text
invariant-loop-text l =
    (l.out ++ listed l.is_later (drop l.text-index l.texts) ≡ l.initial.out ++ listed false l.texts)
    × (IsUtf8 l.initial.out → IsUtf8 l.out)
