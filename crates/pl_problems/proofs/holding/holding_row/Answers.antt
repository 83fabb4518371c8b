use Rattle.std.proofs.Common.{None, Some, sym, ◌∙◌}
use Rattle.pl_columns.specs.Read.{known_by}
use Rattle.pl_decide.specs.declared.problem.Problem.TheVariants as problem
use Rattle.pl_model.specs.Problems.{holds_doomed}
use Rattle.pl_problems.proofs.Finding.{first_problem}
use Rattle.pl_problems.proofs.holding.holding_row.Goals as goal

pub returns-in-None : goal.returns-in-None
returns-in-None c =
    first_problem (known_by c.args.columns.now) problem.NotPermitted (holds_doomed (known_by c.args.columns.now)) c.first_holding-first.result None c.first_holding-first.ensures
    (sym c.in-None.is ∙ c.in_ok-urn_of_row.ensures)

pub returns-in-Some : goal.returns-in-Some
returns-in-Some c =
    first_problem (known_by c.args.columns.now) problem.NotPermitted (holds_doomed (known_by c.args.columns.now)) c.first_holding-first.result (Some c.in-Some.urn) c.first_holding-first.ensures
    (sym c.in-Some.is ∙ c.in_ok-urn_of_row.ensures)
