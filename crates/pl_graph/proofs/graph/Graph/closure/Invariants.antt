use Rattle.std.proofs.Common.{◌≡◌, ℕ, ◌==◌, false, get_or, length}
use Rattle.std.specs.List.{list_any}
use Rattle.pl_graph.specs.Closure.{closure_among}
use Rattle.pl_graph.specs.Edges.{refers}
use Rattle.pl_graph.proofs.graph.Graph.closure.Given as goal

-- the rows that were found are the closure among the first ones, and just they are marked
abbrev pub invariant-loop-place : goal.invariant-loop-place
invariant-loop-place l = record {
  listed : l.reaching ≡ closure_among (refers l.targets-items) l.row l.place;
  count : length l.marks.items ≡ l.place;
  told : (k : ℕ) → get_or l.marks.items k false ≡ list_any (λ n. n == k) l.reaching;
}
