use Rattle.std.proofs.Common.{◌∙◌, length, ap}
use Rattle.pl_model.specs.Step.{Summary}
use Rattle.pl_core.proofs.Reading.{read_now}
use Rattle.pl_core.proofs.held.Core.goals.Goals as goal

pub returns : goal.returns
returns c = c.len.ensures.count ∙ ap (λ (kept : Summary). length kept.goals) (read_now c.self.inside c.args.self.now c.self.invariant c.self.view_is)
