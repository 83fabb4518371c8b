-- Which row keeps a URN.
use Rattle.std.specs.Prelude.{ℕ, Option, List, find, option_map}
use Rattle.std.specs.List.{enumerate_from}
use Rattle.pl_state.specs.References.{keeps_urn}
use Rattle.pl_state.specs.declared.entry.Entry.{Entry}

-- the first row that keeps a URN: that has it, and is not to be deleted
abbrev pub keeper_in : List Entry → List ℕ → Option ℕ
keeper_in rows urn = option_map (λ row. row.0) (find (λ row. keeps_urn urn row.1) (enumerate_from 0 rows))
