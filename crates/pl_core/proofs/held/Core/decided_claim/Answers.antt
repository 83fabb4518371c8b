use Rattle.std.proofs.Common.{◌∙◌, option_and_then, ap}
use Rattle.pl_lemmas.specs.Words.{numbered}
use Rattle.pl_model.specs.Step.{Summary}
use Rattle.pl_model.specs.declared.decided.Decided.{Decided}
use Rattle.pl_core.proofs.Reading.{read_now}
use Rattle.pl_core.proofs.held.Core.decided_claim.Goals as goal

pub returns-in-None : goal.returns-in-None
returns-in-None c =
    ap (option_and_then (λ (one : Decided). one.claim))
    (c.in-None.ensures ∙ ap (λ (kept : Summary). numbered kept.decided c.args.goal) (read_now c.self.inside c.args.self.now c.self.invariant c.self.view_is))

pub returns-in-Some : goal.returns-in-Some
returns-in-Some c =
    ap (option_and_then (λ (one : Decided). one.claim))
    (c.in-Some.ensures ∙ ap (λ (kept : Summary). numbered kept.decided c.args.goal) (read_now c.self.inside c.args.self.now c.self.invariant c.self.view_is))
