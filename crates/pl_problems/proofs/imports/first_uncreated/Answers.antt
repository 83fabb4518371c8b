use Rattle.std.proofs.Common.{◌∙◌, ◌<◌, length, sym, arith}
use Rattle.pl_claims.proofs.Lists.{first_found, first_more}
use Rattle.pl_model.specs.Problems.{no_create}
use Rattle.pl_problems.proofs.imports.first_uncreated.Goals as goal

pub returns-in-Some : goal.returns-in-Some
returns-in-Some c =
    let inside : c.loop-pair.pair-index < length c.args.imports.now = omega arith in
    first_found (no_create c.args.run.now) c.args.imports.now c.loop-pair.pair-index c.pair-item.result
    c.in-Some.problem inside c.pair-item.is c.loop-pair.invariant (sym c.in_ok-problem.ensures ∙ c.in-Some.is)

pub loop-pair-preserved : goal.loop-pair-preserved
loop-pair-preserved c =
    let inside : c.loop-pair.pair-index < length c.args.imports.now = omega arith in
    first_more (no_create c.args.run.now) c.args.imports.now c.loop-pair.pair-index c.pair-item.result
    inside c.pair-item.is c.loop-pair.invariant (sym c.in_ok-problem.ensures ∙ c.in_default.is)
