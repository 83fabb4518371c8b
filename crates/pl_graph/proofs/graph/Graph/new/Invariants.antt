use Rattle.std.proofs.Common.{◌≡◌, [], replicate}
use Rattle.pl_graph.proofs.graph.Graph.new.Given as goal

-- the rows so far have no edge
abbrev pub invariant-loop : goal.invariant-loop
invariant-loop l = l.targets.items ≡ replicate l.counter []
