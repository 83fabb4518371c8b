use Rattle.std.proofs.Common.{◌≡◌, ◌∙◌, true, false, ap, sym}
use Rattle.pl_model.specs.Problems.{refresh_problems}
use Rattle.pl_model.specs.Run.{is_refresh}
use Rattle.pl_model.specs.declared.fixed.Fixed.{Fixed}
use Rattle.pl_problems.proofs.Starting.{starts_else, starts_reading}
use Rattle.pl_problems.proofs.start.start_problems.Goals as goal

pub returns-in_ok-hindered : goal.returns-in_ok-hindered
returns-in_ok-hindered c =
    let reads : is_refresh c.args.columns.now.claims.run.mode ≡ true =
    ap (λ (run : Fixed). is_refresh run.mode) (sym c.run.ensures) ∙ sym c.is_refresh.ensures ∙ c.if-is_refresh.true in
    starts_reading c.args.columns.now.claims.run c.in_ok-hindered.hindered.items reads
    (c.in_ok-hindered.ensures ∙ ap refresh_problems c.base.ensures)

pub returns-in_ok-left : goal.returns-in_ok-left
returns-in_ok-left c =
    let reads : is_refresh c.args.columns.now.claims.run.mode ≡ false =
    ap (λ (run : Fixed). is_refresh run.mode) (sym c.run.ensures) ∙ sym c.is_refresh.ensures ∙ c.if-is_refresh.false in
    starts_else c.args.columns.now c.in_ok-left.left.items c.requires reads c.in_ok-left.ensures
