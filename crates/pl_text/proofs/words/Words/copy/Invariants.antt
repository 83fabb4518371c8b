use Rattle.std.proofs.Common.{◌≡◌, take}
use Rattle.pl_text.proofs.words.Words.copy.Given as goal

-- the words that were copied are the first ones
abbrev pub invariant-loop-word : goal.invariant-loop-word
invariant-loop-word l = l.words.items ≡ take l.word-index l.word-items
