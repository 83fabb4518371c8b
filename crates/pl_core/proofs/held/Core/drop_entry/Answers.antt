use Rattle.std.proofs.Common.{refl, ap}
use Rattle.pl_events.specs.Seen.{Seen}
use Rattle.pl_events.specs.declared.event.What.TheVariants.{Dropped}
use Rattle.pl_course.proofs.Together.{dropped, course_on, drop_room, may_now, moved, removals_left, unremoved}
use Rattle.pl_core.proofs.held.Core.drop_entry.Goals as goal

pub remove-requires-clause-room : goal.remove-requires-clause-room
remove-requires-clause-room c =
    removals_left c.model_laws.ensures c.self.inside.columns c.self.inside.history c.self.invariant c.args.seat c.args.row
    (may_now c.self.inside.columns c.self.inside.history c.args.self.now c.args.seat (Dropped c.args.row)
    c.self.view_is c.requires)

pub remove-requires-clause-unremoved : goal.remove-requires-clause-unremoved
remove-requires-clause-unremoved c =
    unremoved c.model_laws.ensures c.self.inside.columns c.self.inside.history c.self.invariant c.args.seat c.args.row
    (may_now c.self.inside.columns c.self.inside.history c.args.self.now c.args.seat (Dropped c.args.row)
    c.self.view_is c.requires)

pub push_reserved-requires : goal.push_reserved-requires
push_reserved-requires c =
    drop_room c.model_laws.ensures c.self.inside.columns c.self.inside.history c.self.invariant c.args.seat c.args.row
    (may_now c.self.inside.columns c.self.inside.history c.args.self.now c.args.seat (Dropped c.args.row)
    c.self.view_is c.requires)

pub invariant_of-self : goal.invariant_of-self
invariant_of-self c =
    moved (λ i. record c.self.inside.columns { records = c.remove.ensures i }) c.push_reserved.ensures
    (dropped c.model_laws.ensures c.self.inside.columns c.self.inside.history c.self.invariant c.args.seat c.args.row
    (may_now c.self.inside.columns c.self.inside.history c.args.self.now c.args.seat (Dropped c.args.row)
    c.self.view_is c.requires))

pub returns : goal.returns
returns c =
    course_on c.self.inside.columns (record c.self.inside.columns { records = c.remove.new.self }) c.self.inside.history c.push_reserved.new.self
    c.args.self.now c.args.seat (Dropped c.args.row) c.self.view_is refl (ap (λ (one : Seen). one.events) c.push_reserved.ensures)
