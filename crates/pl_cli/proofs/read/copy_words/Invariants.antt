use Rattle.std.proofs.Common.{◌≡◌, map, string_bytes, take}
use Rattle.pl_cli.proofs.read.copy_words.Given as goal

-- the words that were copied are the first ones
abbrev pub invariant-loop-word : goal.invariant-loop-word
invariant-loop-word l = l.made ≡ map string_bytes (take l.word-index l.words)
