-- The edges between rows. A graph is, for each row, the list of the rows that it refers to, in the order in which the
-- edges were added.
use Rattle.std.specs.Prelude.{ℕ, suc, ◌<◌, ◌==◌, Bool, IsTrue, List, [], ◌∷◌, ◌++◌, Option, filter, find, length, map, nat_le, slice_index_or, slice_set}
use Rattle.std.specs.List.{list_any, range_with_len}

-- the rows that a row refers to
abbrev pub targets_of : List (List ℕ) → ℕ → List ℕ
targets_of graph row = slice_index_or graph row []

-- whether there is an edge from a row to another
abbrev pub refers : List (List ℕ) → ℕ → ℕ → Bool
refers graph from to = list_any (λ target. target == to) (targets_of graph from)

-- the graph with an edge more
abbrev pub with_edge : List (List ℕ) → ℕ → ℕ → List (List ℕ)
with_edge graph from to = slice_set graph from (targets_of graph from ++ to ∷ [])

-- the edges of rows that follow one another, the first row's number being given
abbrev pub edges_from : ℕ → List (List ℕ) → List (ℕ × ℕ)
edges_from row [] = []
edges_from row (targets ∷ others) = map (λ target. (row, target)) targets ++ edges_from (suc row) others

-- all edges, by the row that they go from and then in the order in which they were added
abbrev pub edges_of : List (List ℕ) → List (ℕ × ℕ)
edges_of graph = edges_from 0 graph

-- whether an edge goes to a row that isn't before the one that it goes from
abbrev pub is_out_of_order : ℕ × ℕ → Bool
is_out_of_order edge = nat_le edge.0 edge.1

-- the first edge that is out of order
abbrev pub first_out_of_order : List (List ℕ) → Option (ℕ × ℕ)
first_out_of_order graph = find is_out_of_order (edges_of graph)

-- each row refers to rows before it alone
abbrev pub IsInOrder : List (List ℕ) → Type 0
IsInOrder graph = (from to : ℕ) → IsTrue (refers graph from to) → to < from

-- the rows with an edge to a row, rising
abbrev pub dependents_of : List (List ℕ) → ℕ → List ℕ
dependents_of graph row = filter (λ other. refers graph other row) (range_with_len 0 (length graph))
