use Rattle.std.proofs.Common.{None, Some, ◌&&◌, sym, ◌∙◌}
use Rattle.pl_columns.specs.Read.{known_by}
use Rattle.pl_decide.specs.declared.problem.Problem.TheVariants as problem
use Rattle.pl_model.specs.Problems.{lacks_provider}
use Rattle.pl_model.specs.Rows.{is_doomed}
use Rattle.pl_problems.proofs.Finding.{first_problem}
use Rattle.pl_problems.proofs.ends.unprovided_row.Goals as goal

pub returns-in-None : goal.returns-in-None
returns-in-None c =
    first_problem (known_by c.args.columns.now) problem.MissingProvider (λ row entry. is_doomed (known_by c.args.columns.now) row && lacks_provider (known_by c.args.columns.now) row) c.first_unprovided-first.result None c.first_unprovided-first.ensures
    (sym c.in-None.is ∙ c.in_ok-urn_of_row.ensures)

pub returns-in-Some : goal.returns-in-Some
returns-in-Some c =
    first_problem (known_by c.args.columns.now) problem.MissingProvider (λ row entry. is_doomed (known_by c.args.columns.now) row && lacks_provider (known_by c.args.columns.now) row) c.first_unprovided-first.result (Some c.in-Some.urn) c.first_unprovided-first.ensures
    (sym c.in-Some.is ∙ c.in_ok-urn_of_row.ensures)
