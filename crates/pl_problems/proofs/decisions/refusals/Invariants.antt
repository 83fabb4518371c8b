use Rattle.std.proofs.Common.{◌≡◌, drop, filter_map, reverse}
use Rattle.pl_model.specs.Problems.{refusal_in}
use Rattle.pl_problems.proofs.Deciding.{with_rest}
use Rattle.pl_problems.proofs.decisions.refusals.Given as goal

abbrev pub invariant-loop-goal : goal.invariant-loop-goal
invariant-loop-goal l =
    with_rest (λ one. refusal_in one.decision) l.columns.claims.decided l.goal l.problems.items
    ≡ filter_map (λ one. refusal_in one.decision) (drop l.before (reverse l.columns.claims.decided))
