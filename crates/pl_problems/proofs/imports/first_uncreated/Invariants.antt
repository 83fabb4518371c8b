use Rattle.std.proofs.Common.{◌≡◌, None, take}
use Rattle.pl_lemmas.specs.Words.{first_some}
use Rattle.pl_model.specs.Problems.{no_create}
use Rattle.pl_problems.proofs.imports.first_uncreated.Given as goal

abbrev pub invariant-loop-pair : goal.invariant-loop-pair
invariant-loop-pair l = first_some (no_create l.run) (take l.pair-index l.imports) ≡ None
