use Rattle.std.proofs.Common.{◌∙◌, false, None, refl, sym}
use Rattle.std.proofs.lemmas.Result.{IfOk-weaker}
use Rattle.pl_decide.specs.declared.problem.Problem.TheVariants.{DuplicateUrn}
use Rattle.pl_model.specs.Requests.{has_goal, refused_if}
use Rattle.pl_requests.specs.Ids.{known_over}
use Rattle.pl_requests.proofs.Refusals.{goal_refused}
use Rattle.pl_requests.proofs.refusal.goal_refusal.Goals as goal

pub returns-in-None : goal.returns-in-None
returns-in-None c =
    IfOk-weaker c.duplicate.result _ _
    (λ problem says known tells. says c.args.run.now known
    ∙ sym (goal_refused (known_over c.args.run.now c.args.requests.now.goals known) c.args.told.now c.args.goal.now false None
    (refused_if (has_goal (known_over c.args.run.now c.args.requests.now.goals known) c.args.goal.now.urn) (DuplicateUrn c.args.goal.now.urn))
    (sym c.in_ok-lacks_default.ensures ∙ c.if-branch.false)
    (sym (c.in_ok-text.ensures c.args.run.now known tells) ∙ c.in-None.is) refl))
    c.duplicate.ensures
