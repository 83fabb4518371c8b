-- The inputs of a goal, with those whose changes are ignored set back.
use Rattle.std.specs.Prelude.{ℕ, List}
use Rattle.std.specs.List.{fold}
use Rattle.pl_value.specs.declared.value.Value.{Value}
use Rattle.pl_path.specs.Reset.{reset_at}
use Rattle.pl_state.specs.declared.goal.Goal.{Goal}

-- the fields set back to the old ones at each of the paths, in order
abbrev pub reset_at_each : List (List ℕ) → List (List ℕ × Value) → List (List ℕ × Value) → List (List ℕ × Value)
reset_at_each paths new old = fold (λ fields path. reset_at path fields old) new paths

-- the goal's inputs set back to the old ones at each path whose changes it ignores
unfoldable pub with_ignored : Goal → List (List ℕ × Value) → List (List ℕ × Value)
with_ignored goal old = reset_at_each goal.ignore_changes goal.inputs old
