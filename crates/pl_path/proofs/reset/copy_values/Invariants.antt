use Rattle.std.proofs.Common.{◌≡◌, ◌++◌, take}
use Rattle.pl_path.proofs.reset.copy_values.Given as goal

-- what was added are the first ones
abbrev pub invariant-loop-value : goal.invariant-loop-value
invariant-loop-value l = l.made ≡ l.initial.made ++ take l.value-index l.values
