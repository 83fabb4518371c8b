use Rattle.std.proofs.Common.{◌∙◌, List, sym, ap}
use Rattle.std.specs.List.{slice_get}
use Rattle.pl_state.specs.declared.goal.Goal.{Goal}
use Rattle.pl_told.proofs.Seen.{goal_seen}
use Rattle.pl_told.proofs.stored.Stored.goal.Goals as goal

pub returns : goal.returns
returns c =
    c.goal_at.ensures ∙ ap (λ (items : List Goal). slice_get items c.args.number) c.as_slice.ensures.value
    ∙ sym (goal_seen c.self.inside c.self.invariant c.args.self.now c.self.view_is c.args.number)
