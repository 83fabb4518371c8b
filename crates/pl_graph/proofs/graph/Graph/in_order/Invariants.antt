use Rattle.std.proofs.Common.{◌≡◌, drop}
use Rattle.std.specs.List.{find}
use Rattle.pl_graph.specs.Edges.{edges_from, first_out_of_order, is_out_of_order}
use Rattle.pl_graph.proofs.graph.Graph.in_order.Given as goal

-- the first edge out of order is that of the rows from here on
abbrev pub invariant-loop-from : goal.invariant-loop-from
invariant-loop-from l =
    first_out_of_order l.targets-items ≡ find is_out_of_order (edges_from l.from (drop l.from l.targets-items))
