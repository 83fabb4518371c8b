use Rattle.pl_requests.proofs.Makings.{goal_version}
use Rattle.pl_requests.proofs.making.registered.Goals as goal

pub made_of_goal-requires-clause-version : goal.made_of_goal-requires-clause-version
made_of_goal-requires-clause-version c =
    goal_version c.as_str.result.now c.as_str-2.result.now c.args.told.now c.in-Ok.goal c.in-Ok.ensures.made
