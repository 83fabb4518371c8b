use Rattle.std.proofs.Common.{◌∙◌, ℕ, List, Option, Bor, sym, ap}
use Rattle.std.specs.Option.{option_copied}
use Rattle.std.proofs.lemmas.Result.{IfOk-weaker}
use Rattle.pl_model.specs.Requests.{invoke_refusal}
use Rattle.pl_requests.specs.Ids.{known_over}
use Rattle.pl_requests.proofs.refusal.invoke_refusal.Goals as goal

pub returns-in-Some : goal.returns-in-Some
returns-in-Some c =
    IfOk-weaker c.named_refusal.result _ _
    (λ problem says known tells. says c.args.run.now known tells c.args.token.now (option_copied c.args.version)
    ∙ ap (λ (named : Option (Bor (List ℕ))). invoke_refusal (known_over c.args.run.now c.args.requests.now.goals known) c.args.token.now (option_copied named) (option_copied c.args.version))
    (sym c.in-Some.is))
    c.named_refusal.ensures

pub returns-in-None : goal.returns-in-None
returns-in-None c =
    IfOk-weaker c.default_refusal.result _ _
    (λ problem says known tells. says (known_over c.args.run.now c.args.requests.now.goals known)
    ∙ ap (λ (named : Option (Bor (List ℕ))). invoke_refusal (known_over c.args.run.now c.args.requests.now.goals known) c.args.token.now (option_copied named) (option_copied c.args.version))
    (sym c.in-None.is))
    c.default_refusal.ensures
