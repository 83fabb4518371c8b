use Rattle.std.proofs.Common.{◌≡◌, find}
use Rattle.std.specs.List.{list_any, range_with_len}
use Rattle.pl_columns.specs.Read.{known_by}
use Rattle.pl_model.specs.Rows.{row_numbers}
use Rattle.pl_problems.specs.Holding.{holds}
use Rattle.pl_problems.proofs.holding.first_holding.Given as goal

abbrev pub invariant-loop-row : goal.invariant-loop-row
invariant-loop-row l =
    l.first
    ≡ find (λ later. list_any (λ earlier. holds (known_by l.columns) earlier later) (range_with_len 0 l.row)) (row_numbers (known_by l.columns))
