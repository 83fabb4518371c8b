use Rattle.std.proofs.Common.{◌≡◌, None, take}
use Rattle.pl_lemmas.specs.Words.{first_some}
use Rattle.pl_model.specs.Problems.{import_problem, names_none}
use Rattle.pl_problems.proofs.imports.first_without_provider.Given as goal

abbrev pub invariant-loop-pair : goal.invariant-loop-pair
invariant-loop-pair l = first_some (import_problem names_none l.run) (take l.pair-index l.imports) ≡ None
