-- What is told of each row.
use Rattle.std.specs.Prelude.{ℕ, List, length, map}
use Rattle.std.specs.List.{range_with_len}
use Rattle.pl_state.specs.declared.entry.Entry.{Entry}

-- what a definition says of each row, in order
abbrev pub of_rows : {X : Type 0} → (ℕ → X) → List Entry → List X
of_rows says rows = map says (range_with_len 0 (length rows))
