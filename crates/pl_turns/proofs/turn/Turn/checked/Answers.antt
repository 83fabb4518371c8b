use Rattle.std.proofs.Common.{◌∙◌, sym}
use Rattle.std.proofs.lemmas.Result.{IfOk-weaker}
use Rattle.pl_turns.proofs.Turns.{checked_config, checked_provided}
use Rattle.pl_turns.proofs.turn.Turn.checked.Goals as goal

pub returns-then-is_of_provider : goal.returns-then-is_of_provider
returns-then-is_of_provider c =
    IfOk-weaker c.checked_by.result _ _
    (λ checked says. says ∙ checked_config c.args.self.now (sym c.is_of_provider.ensures ∙ c.if-is_of_provider.true)) c.checked_by.ensures

pub returns-then-needs_check : goal.returns-then-needs_check
returns-then-needs_check c =
    IfOk-weaker c.checked_by-then-needs_check.result _ _
    (λ checked says. says ∙ checked_provided c.args.self.now (sym c.is_of_provider.ensures ∙ c.if-is_of_provider.false)
    (sym c.needs_check.ensures ∙ c.if-needs_check.true)) c.checked_by-then-needs_check.ensures
