use Rattle.std.proofs.Common.{◌∙◌, ap}
use Rattle.pl_model.specs.Step.{Summary}
use Rattle.pl_troubles.specs.First.{least_place}
use Rattle.pl_core.proofs.Reading.{read_now}
use Rattle.pl_core.proofs.held.Core.problem_at.Goals as goal

pub returns : goal.returns
returns c = c.problem_at.ensures ∙ ap (λ (kept : Summary). least_place kept.problems) (read_now c.self.inside c.args.self.now c.self.invariant c.self.view_is)
