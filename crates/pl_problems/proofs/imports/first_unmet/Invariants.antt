use Rattle.std.proofs.Common.{◌≡◌, None, take}
use Rattle.pl_lemmas.specs.Words.{first_some}
use Rattle.pl_problems.specs.Unmet.{unmet_import}
use Rattle.pl_problems.proofs.imports.first_unmet.Given as goal

abbrev pub invariant-loop-pair : goal.invariant-loop-pair
invariant-loop-pair l = first_some (unmet_import l.base) (take l.pair-index l.imports) ≡ None
