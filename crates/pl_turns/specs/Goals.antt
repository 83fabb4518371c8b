-- Goals that stand newest first, and those before one of them.
use Rattle.std.specs.Prelude.{◌==◌, ℕ, if◌then◌else◌, List, [], ◌∷◌, length}
use Rattle.pl_state.specs.declared.goal.Goal.{Goal}

-- the goals before that of a number
abbrev pub goals_before : List Goal → ℕ → List Goal
goals_before [] number = []
goals_before (goal ∷ earlier) number = if length earlier == number then earlier else goals_before earlier number
