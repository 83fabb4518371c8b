use Rattle.std.proofs.Common.{◌∙◌, Option, is_some, sym, ap}
use Rattle.pl_events.specs.declared.reply.Reply.{Reply}
use Rattle.pl_model.specs.Decisions.{checked_in}
use Rattle.pl_model.specs.Run.{Pairs}
use Rattle.pl_turns.proofs.Turns.{checked_config, checked_provided}
use Rattle.pl_due.proofs.checked.is_checked.Goals as goal

pub returns-then-is_of_provider : goal.returns-then-is_of_provider
returns-then-is_of_provider c =
    c.has_checked.ensures
    ∙ ap (λ (o : Option Reply). is_some (checked_in o)) c.reply_to.ensures
    ∙ ap (λ (o : Option Pairs). is_some o) (checked_config c.args.turn.now (sym c.is_of_provider.ensures ∙ c.if-is_of_provider.true))

pub returns-then-needs_check : goal.returns-then-needs_check
returns-then-needs_check c =
    c.has_checked-then-needs_check.ensures
    ∙ ap (λ (o : Option Reply). is_some (checked_in o)) c.reply_to-then-needs_check.ensures
    ∙ ap (λ (o : Option Pairs). is_some o)
    (checked_provided c.args.turn.now (sym c.is_of_provider.ensures ∙ c.if-is_of_provider.false)
    (sym c.needs_check.ensures ∙ c.if-needs_check.true))
