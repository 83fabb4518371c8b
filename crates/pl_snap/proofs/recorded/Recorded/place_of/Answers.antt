use Rattle.std.proofs.Common.{◌∙◌, ap}
use Rattle.std.specs.Prelude.{position}
use Rattle.pl_snap.specs.Calls.{is_goal}
use Rattle.pl_snap.proofs.recorded.Recorded.place_of.Goals as goal

pub returns : goal.returns
returns c =
    c.copied.ensures ∙ c.get.ensures.value ∙ c.self.invariant c.args.goal ∙ ap (position (is_goal c.args.goal)) c.self.view_is
