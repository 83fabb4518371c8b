use Rattle.std.proofs.Common.{ℕ, ◌==◌, not, List, length, ap, ◌∙◌}
use Rattle.pl_decide.specs.declared.problem.Problem.{Problem}
use Rattle.pl_troubles.specs.Kept.{listed_by}
use Rattle.pl_troubles.proofs.Marking.{any_marked}
use Rattle.pl_troubles.proofs.troubles.Troubles.any.Goals as goal

pub returns : goal.returns
returns c =
    c.any.ensures ∙ any_marked c.self.inside.marks (listed_by c.self.inside) c.self.invariant
    ∙ ap (λ (problems : List (ℕ × Problem)). not (length problems == 0)) c.self.view_is
