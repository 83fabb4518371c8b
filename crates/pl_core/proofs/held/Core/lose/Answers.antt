use Rattle.std.proofs.Common.{◌∙◌, ℕ, ap}
use Rattle.pl_columns.specs.declared.columns.Columns.{Columns}
use Rattle.pl_events.specs.Seen.{Seen}
use Rattle.pl_events.specs.declared.event.What.TheVariants.{Lost}
use Rattle.pl_course.proofs.Together.{course_on, kept_open, loss_room, lost, lost_columns, may_now, moved}
use Rattle.pl_core.proofs.held.Core.lose.Goals as goal

pub lose_ticket-requires : goal.lose_ticket-requires
lose_ticket-requires c =
    kept_open c.model_laws.ensures c.self.inside.columns c.self.inside.history c.self.invariant c.args.seat c.args.ticket c.args.why
    (may_now c.self.inside.columns c.self.inside.history c.args.self.now c.args.seat (Lost c.args.ticket c.args.why)
    c.self.view_is c.requires)

pub push_reserved-requires : goal.push_reserved-requires
push_reserved-requires c =
    loss_room c.model_laws.ensures c.self.inside.columns c.self.inside.history c.self.invariant c.args.seat c.args.ticket c.args.why
    (may_now c.self.inside.columns c.self.inside.history c.args.self.now c.args.seat (Lost c.args.ticket c.args.why)
    c.self.view_is c.requires)

pub invariant_of-self : goal.invariant_of-self
invariant_of-self c =
    moved
    (c.lose_ticket.ensures
    ∙ ap (λ (n : ℕ). lost_columns n c.args.ticket c.args.why c.self.inside.columns) c.len-at.ensures)
    c.push_reserved.ensures
    (lost c.model_laws.ensures c.self.inside.columns c.self.inside.history c.self.invariant c.args.seat c.args.ticket c.args.why
    (may_now c.self.inside.columns c.self.inside.history c.args.self.now c.args.seat (Lost c.args.ticket c.args.why)
    c.self.view_is c.requires))

pub returns : goal.returns
returns c =
    course_on c.self.inside.columns c.lose_ticket.new.columns c.self.inside.history c.push_reserved.new.self c.args.self.now c.args.seat
    (Lost c.args.ticket c.args.why) c.self.view_is (ap (λ (one : Columns). one.claims.run) c.lose_ticket.ensures)
    (ap (λ (one : Seen). one.events) c.push_reserved.ensures)
