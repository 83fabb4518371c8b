use Rattle.std.proofs.Common.{◌+◌, ◌∙◌, arith}
use Rattle.pl_columns.specs.Read.{known_by}
use Rattle.pl_model.specs.Problems.{missing_provider}
use Rattle.pl_problems.proofs.Deciding.{ends, past_end, step}
use Rattle.pl_problems.proofs.decisions.missing_providers.Goals as goal

pub loop-goal-preserved : goal.loop-goal-preserved
loop-goal-preserved c =
    step (missing_provider (known_by c.args.columns.now)) c.args.columns.now.claims.decided c.loop-goal.goal (c.loop-goal.goal + 1) c.loop-goal.problems.items
    c.push_found.new.problems.items c.in_ok-found.found (omega arith) c.in_ok-found.ensures c.in_ok-push_found.ensures
    ∙ c.loop-goal.invariant

pub returns : goal.returns
returns c =
    ends (missing_provider (known_by c.args.columns.now)) c.args.columns.now.claims.decided c.args.before c.loop-goal.goal c.loop-goal.problems.items
    (past_end c.count-goal-end.ensures c.loop-goal-test.false) c.loop-goal.invariant
