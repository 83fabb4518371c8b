-- Goals whose paths can be read.
use Rattle.std.specs.Prelude.{All, List}
use Rattle.pl_options.specs.Refused.{HasPaths}
use Rattle.pl_state.specs.declared.goal.Goal.{Goal}

-- each path of each goal is one that can be read
abbrev pub HaveAllPaths : List Goal → Type 0
HaveAllPaths goals = All HasPaths goals
