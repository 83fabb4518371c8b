use Rattle.std.proofs.Common.{◌≡◌, ◌++◌}
use Rattle.pl_model.specs.Problems.{at_position}
use Rattle.pl_troubles.proofs.troubles.Troubles.add_all.Given as goal

abbrev pub invariant-loop-problem : goal.invariant-loop-problem
invariant-loop-problem l = l.self ≡ l.initial.self ++ at_position l.at l.yielded
