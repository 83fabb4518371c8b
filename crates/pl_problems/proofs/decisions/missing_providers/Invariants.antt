use Rattle.std.proofs.Common.{◌≡◌, drop, filter_map, reverse}
use Rattle.pl_columns.specs.Read.{known_by}
use Rattle.pl_model.specs.Problems.{missing_provider}
use Rattle.pl_problems.proofs.Deciding.{with_rest}
use Rattle.pl_problems.proofs.decisions.missing_providers.Given as goal

abbrev pub invariant-loop-goal : goal.invariant-loop-goal
invariant-loop-goal l =
    with_rest (missing_provider (known_by l.columns)) l.columns.claims.decided l.goal l.problems.items
    ≡ filter_map (missing_provider (known_by l.columns)) (drop l.before (reverse l.columns.claims.decided))
