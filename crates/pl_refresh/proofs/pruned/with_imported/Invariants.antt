use Rattle.std.proofs.Common.{◌≡◌, drop}
use Rattle.pl_refresh.specs.Refreshed.{imported_left, pruned_behind}
use Rattle.pl_refresh.proofs.pruned.with_imported.Given as goal

-- the entries so far, and those that follow, are all entries
abbrev pub invariant-loop-row : goal.invariant-loop-row
invariant-loop-row l =
    pruned_behind l.ancestry l.standing (imported_left l.ancestry (drop l.row-index l.imported))
    ≡ pruned_behind l.ancestry l.fn.standing (imported_left l.ancestry l.imported)
