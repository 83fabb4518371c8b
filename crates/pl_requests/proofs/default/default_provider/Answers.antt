use Rattle.std.proofs.Common.{◌∙◌, sym}
use Rattle.std.specs.Option.{option_copied}
use Rattle.std.proofs.lemmas.Result.{IfOk-weaker}
use Rattle.pl_requests.proofs.Defaults.{allowed_is}
use Rattle.pl_requests.proofs.default.default_provider.Goals as goal

pub returns-in-Some : goal.returns-in-Some
returns-in-Some c =
    IfOk-weaker c.provider_of.result _ _
    (λ provider says known fine. says known
    (allowed_is c.args.run.now c.args.provided.now (option_copied c.args.version) c.in-Some.urn (sym c.in_ok-allowed_default.ensures ∙ c.in-Some.is)))
    c.provider_of.ensures
