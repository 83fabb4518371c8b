use Rattle.std.proofs.Common.{◌≡◌, drop}
use Rattle.pl_path.specs.Grammar.{is_path}
use Rattle.pl_options.specs.GoalOf.{first_bad}
use Rattle.pl_options.proofs.goal.check_paths.Given as goal

-- what is bad is among the texts that were not looked at yet
abbrev pub invariant-loop-text : goal.invariant-loop-text
invariant-loop-text l = first_bad is_path l.text-items ≡ first_bad is_path (drop l.text-index l.text-items)
