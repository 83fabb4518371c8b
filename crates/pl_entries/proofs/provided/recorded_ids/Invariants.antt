use Rattle.std.proofs.Common.{◌≡◌, map}
use Rattle.std.specs.List.{range_with_len}
use Rattle.pl_columns.specs.Read.{known_by}
use Rattle.pl_requests.specs.Ids.{recorded_id}
use Rattle.pl_entries.proofs.provided.recorded_ids.Given as goal

abbrev pub invariant-loop-goal : goal.invariant-loop-goal
invariant-loop-goal l = l.ids.items ≡ map (recorded_id (known_by l.columns)) (range_with_len 0 l.goal)
