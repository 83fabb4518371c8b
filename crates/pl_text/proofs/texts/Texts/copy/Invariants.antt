use Rattle.std.proofs.Common.{◌≡◌, take}
use Rattle.pl_text.proofs.texts.Texts.copy.Given as goal

-- the texts that were copied are the first ones
abbrev pub invariant-loop-text : goal.invariant-loop-text
invariant-loop-text l = l.texts.items ≡ take l.text-index l.text-items
