use Rattle.std.proofs.Common.{sym, subst}
use Rattle.std.proofs.lemmas.Result.{IfOk-weaker}
use Rattle.pl_events.specs.declared.event.Request.{Request}
use Rattle.pl_requests.specs.Making.{MakesFor}
use Rattle.pl_requests.proofs.making.goals_made.Goals as goal

pub returns-in-Register : goal.returns-in-Register
returns-in-Register c =
    IfOk-weaker c.registered.result _ _
    (λ making makes. subst (λ (request : Request). MakesFor c.args.run.now c.args.requests.now.goals request making) (sym c.in-Register.is) (makes c.in-Register.n))
    c.registered.ensures

pub returns-in-Outputs : goal.returns-in-Outputs
returns-in-Outputs c =
    subst (λ (request : Request). MakesFor c.args.run.now c.args.requests.now.goals request c.told_outputs.result) (sym c.in-Outputs.is)
    (c.told_outputs.ensures c.args.run.now c.in-Outputs.n c.in-Outputs.outputs)

pub returns-in-Invoke : goal.returns-in-Invoke
returns-in-Invoke c =
    IfOk-weaker c.invoked.result _ _
    (λ making makes. subst (λ (request : Request). MakesFor c.args.run.now c.args.requests.now.goals request making) (sym c.in-Invoke.is) (makes c.in-Invoke.n c.in-Invoke.args))
    c.invoked.ensures
