-- Which rows reach a row through edges.
use Rattle.std.specs.Prelude.{ℕ, zero, suc, Bool, ◌||◌, IsTrue, List, [], ◌∷◌, ◌++◌, if◌then◌else◌, length}
use Rattle.std.specs.List.{list_any}
use Rattle.pl_graph.specs.Edges.{refers}

-- whether a row is in the closure of the row at a place: it refers to that row or to one of the closure before it
abbrev pub joins : (ℕ → ℕ → Bool) → ℕ → List ℕ → ℕ → Bool
joins refers_to at closure place = refers_to place at || list_any (refers_to place) closure

-- a closure, with a row at its end if the row is in it
abbrev pub closure_with : (ℕ → ℕ → Bool) → ℕ → List ℕ → ℕ → List ℕ
closure_with refers_to at closure place = if joins refers_to at closure place then closure ++ place ∷ [] else closure

-- the closure of the row at a place among the first rows, whose number is given
abbrev pub closure_among : (ℕ → ℕ → Bool) → ℕ → ℕ → List ℕ
closure_among refers_to at zero = []
closure_among refers_to at (suc count) = closure_with refers_to at (closure_among refers_to at count) count

-- the rows that refer to a row, directly or through others before them, rising
abbrev pub closure_of : List (List ℕ) → ℕ → List ℕ
closure_of graph row = closure_among (refers graph) row (length graph)

-- edges lead from a row through others, in this order, to a row
abbrev pub IsWay : List (List ℕ) → ℕ → List ℕ → ℕ → Type 0
IsWay graph from [] to = IsTrue (refers graph from to)
IsWay graph from (next ∷ others) to = IsTrue (refers graph from next) × IsWay graph next others to

-- a row reaches another through edges, one or more
abbrev pub Reaches : List (List ℕ) → ℕ → ℕ → Type 0
Reaches graph from to = (between : List ℕ) × IsWay graph from between to
