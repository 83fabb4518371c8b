use Rattle.std.proofs.Common.{◌∙◌, sym}
use Rattle.pl_columns.specs.Read.{known_by}
use Rattle.pl_events.specs.declared.event.What.TheVariants.{HostGone}
use Rattle.pl_model.specs.Problems.{problem_of_end}
use Rattle.pl_problems.proofs.Leaving.{made_alone}
use Rattle.pl_problems.proofs.ending.host_gone_problems.Goals as goal

pub returns : goal.returns
returns c = λ earlier is over.
    c.in_ok-problems.ensures earlier (HostGone c.args.end.now) over is.problems
    (made_alone earlier (known_by c.args.columns.now) is.decided (problem_of_end c.args.end.now) ∙ sym c.is_problem.ensures)
