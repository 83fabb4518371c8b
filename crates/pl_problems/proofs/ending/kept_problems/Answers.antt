use Rattle.std.proofs.Common.{None}
use Rattle.pl_columns.specs.Read.{known_by}
use Rattle.pl_events.specs.declared.event.What.TheVariants.{Kept}
use Rattle.pl_problems.proofs.Leaving.{made_alone}
use Rattle.pl_problems.proofs.ending.kept_problems.Goals as goal

pub returns : goal.returns
returns c = λ earlier number fresh is over.
    c.in_ok-problems.ensures earlier (Kept number fresh) over is.problems (made_alone earlier (known_by c.args.columns.now) is.decided None)
