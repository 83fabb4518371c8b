use Rattle.std.proofs.Common.{◌≡◌}
use Rattle.std.specs.List.{filter, range_with_len}
use Rattle.pl_graph.specs.Edges.{refers}
use Rattle.pl_graph.proofs.graph.Graph.dependents_of.Given as goal

-- the rows that were found are those that refer to the row, among the first ones
abbrev pub invariant-loop-place : goal.invariant-loop-place
invariant-loop-place l = l.found ≡ filter (λ other. refers l.targets-items other l.row) (range_with_len 0 l.place)
