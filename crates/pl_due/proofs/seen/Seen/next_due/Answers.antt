use Rattle.std.proofs.Common.{◌∙◌, Bool, if◌then◌else◌, ap, sym}
use Rattle.pl_model.specs.Choice.{nothing, too_many}
use Rattle.pl_due.proofs.Chosen.{chosen_none, chosen_some}
use Rattle.pl_due.proofs.seen.Seen.next_due.Goals as goal

pub returns-in-Some : goal.returns-in-Some
returns-in-Some g c = λ history tells lanes.
    c.due_of.ensures
    ∙ chosen_some c.args.self.now history tells (g.L.LaneView.told c.args.lanes.now) lanes c.in-Some.work c.in-Some.ensures

pub returns-then-is_too_many : goal.returns-then-is_too_many
returns-then-is_too_many g c = λ history tells lanes.
    ap (λ (b : Bool). if b then too_many else nothing) (sym (sym c.is_too_many.ensures ∙ c.if-is_too_many.true))
    ∙ chosen_none c.args.self.now history tells (g.L.LaneView.told c.args.lanes.now) lanes c.in-None.ensures

pub returns-else-is_too_many : goal.returns-else-is_too_many
returns-else-is_too_many g c = λ history tells lanes.
    ap (λ (b : Bool). if b then too_many else nothing) (sym (sym c.is_too_many.ensures ∙ c.if-is_too_many.false))
    ∙ chosen_none c.args.self.now history tells (g.L.LaneView.told c.args.lanes.now) lanes c.in-None.ensures
