use Rattle.std.proofs.Common.{◌≡◌, ◌∙◌, ℕ, List, Some, option_and_then, sym, ap}
use Rattle.std.specs.Option.{option_copied}
use Rattle.std.proofs.lemmas.Result.{IfOk-weaker}
use Rattle.pl_lemmas.specs.Words.{numbered}
use Rattle.pl_model.specs.Claims.{goal_number}
use Rattle.pl_model.specs.Requests.{outputs_refusal}
use Rattle.pl_requests.specs.Ids.{known_over}
use Rattle.pl_requests.proofs.refusal.outputs_refusal.Goals as goal

pub returns-in-Some : goal.returns-in-Some
returns-in-Some c =
    let found : option_and_then (numbered c.args.requests.now.goals) (goal_number c.args.requests.now.goals c.args.urn.now) ≡ Some c.in-Some.goal.now =
    ap (λ (text : List ℕ). option_and_then (numbered c.args.requests.now.goals) (goal_number c.args.requests.now.goals text)) (sym c.as_str.ensures)
    ∙ sym c.goal_with_urn.ensures ∙ ap option_copied c.in-Some.is in
    IfOk-weaker c.custom_outputs.result _ _
    (λ problem says run known. says (known_over run c.args.requests.now.goals known) c.args.urn.now
    ∙ ap (outputs_refusal (known_over run c.args.requests.now.goals known) c.args.urn.now) (sym found))
    c.custom_outputs.ensures
