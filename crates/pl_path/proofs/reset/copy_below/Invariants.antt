use Rattle.std.proofs.Common.{◌≡◌, ◌++◌, take}
use Rattle.pl_path.specs.Reset.{fields_below}
use Rattle.pl_path.proofs.reset.copy_below.Given as goal

-- what was added are those of the first ones
abbrev pub invariant-loop-name : goal.invariant-loop-name
invariant-loop-name l = l.made ≡ l.initial.made ++ fields_below l.key (take l.name-index l.fields)
