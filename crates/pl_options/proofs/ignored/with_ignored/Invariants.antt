use Rattle.std.proofs.Common.{◌≡◌, take}
use Rattle.pl_options.specs.Ignored.{reset_at_each}
use Rattle.pl_options.proofs.ignored.with_ignored.Given as goal

-- the fields are set back at the first paths
abbrev pub invariant-loop-text : goal.invariant-loop-text
invariant-loop-text l = l.fields ≡ reset_at_each (take l.text-index l.text-items) l.goal.inputs l.old
