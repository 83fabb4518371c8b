use Rattle.std.proofs.Common.{◌∙◌, ℕ, refl, ap}
use Rattle.pl_events.specs.Seen.{Seen}
use Rattle.pl_events.specs.declared.event.What.TheVariants.{Stopped}
use Rattle.pl_course.proofs.Together.{course_on, may_now, moved, stop_room, stopped, stopped_columns}
use Rattle.pl_core.proofs.held.Core.stop.Goals as goal

pub push_reserved-requires : goal.push_reserved-requires
push_reserved-requires c =
    stop_room c.model_laws.ensures c.self.inside.columns c.self.inside.history c.self.invariant c.args.seat c.args.why
    (may_now c.self.inside.columns c.self.inside.history c.args.self.now c.args.seat (Stopped c.args.why)
    c.self.view_is c.requires)

pub invariant_of-self : goal.invariant_of-self
invariant_of-self c =
    moved
    ((λ i. record c.self.inside.columns { records = c.stop.ensures i; troubles = c.add_stop.ensures i })
    ∙ ap (λ (n : ℕ). stopped_columns n c.args.why c.self.inside.columns) c.len-at.ensures)
    c.push_reserved.ensures
    (stopped c.model_laws.ensures c.self.inside.columns c.self.inside.history c.self.invariant c.args.seat c.args.why
    (may_now c.self.inside.columns c.self.inside.history c.args.self.now c.args.seat (Stopped c.args.why)
    c.self.view_is c.requires))

pub returns : goal.returns
returns c =
    course_on c.self.inside.columns (record c.self.inside.columns { records = c.stop.new.self; troubles = c.add_stop.new.self })
    c.self.inside.history c.push_reserved.new.self c.args.self.now c.args.seat (Stopped c.args.why) c.self.view_is refl
    (ap (λ (one : Seen). one.events) c.push_reserved.ensures)
