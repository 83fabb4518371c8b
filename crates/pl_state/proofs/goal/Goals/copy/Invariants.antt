use Rattle.std.proofs.Common.{◌≡◌, take}
use Rattle.pl_state.proofs.goal.Goals.copy.Given as goal

-- the elements that were copied are the first ones
abbrev pub invariant-loop-goal : goal.invariant-loop-goal
invariant-loop-goal l = l.goals.items ≡ take l.goal-index l.goal-items
