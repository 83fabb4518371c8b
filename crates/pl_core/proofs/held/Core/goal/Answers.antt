use Rattle.std.proofs.Common.{◌∙◌, ap}
use Rattle.pl_model.specs.Step.{Summary}
use Rattle.pl_lemmas.specs.Words.{numbered}
use Rattle.pl_core.proofs.Reading.{read_now}
use Rattle.pl_core.proofs.held.Core.goal.Goals as goal

pub returns : goal.returns
returns c = c.goal.ensures ∙ ap (λ (kept : Summary). numbered kept.goals c.args.goal) (read_now c.self.inside c.args.self.now c.self.invariant c.self.view_is)
