use Rattle.std.proofs.Common.{◌≡◌, take}
use Rattle.pl_program.specs.Heard.{without}
use Rattle.pl_program.proofs.hearing.without.Given as goal

-- those of the first ones that are others are kept
abbrev pub invariant-loop-number : goal.invariant-loop-number
invariant-loop-number l = l.others ≡ without l.n (take l.number-index l.numbers)
