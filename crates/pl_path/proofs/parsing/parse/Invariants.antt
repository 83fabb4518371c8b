use Rattle.std.proofs.Common.{◌≡◌, drop}
use Rattle.pl_path.specs.Grammar.{path_in}
use Rattle.pl_path.specs.Steps.{reads_on}
use Rattle.pl_path.proofs.parsing.parse.Given as goal

-- what is left to read decides all
abbrev pub invariant-loop-at : goal.invariant-loop-at
invariant-loop-at l = reads_on l.reading l.at (drop l.at l.bytes) ≡ path_in l.fn.text
