use Rattle.std.proofs.Common.{◌∙◌, ◌<◌, length, sym, arith}
use Rattle.pl_claims.proofs.Lists.{first_found, first_more}
use Rattle.pl_model.specs.Problems.{unread_row}
use Rattle.pl_problems.proofs.unread.first_unread.Goals as goal

pub returns-in-Some : goal.returns-in-Some
returns-in-Some c =
    let inside : c.loop-row.row-index < length c.args.rows.now = omega arith in
    first_found (unread_row) c.args.rows.now c.loop-row.row-index c.row-item.result
    c.in-Some.problem inside c.row-item.is c.loop-row.invariant (sym c.in_ok-problem.ensures ∙ c.in-Some.is)

pub loop-row-preserved : goal.loop-row-preserved
loop-row-preserved c =
    let inside : c.loop-row.row-index < length c.args.rows.now = omega arith in
    first_more (unread_row) c.args.rows.now c.loop-row.row-index c.row-item.result
    inside c.row-item.is c.loop-row.invariant (sym c.in_ok-problem.ensures ∙ c.in_default.is)
