use Rattle.std.proofs.Common.{◌∙◌, ◌≤◌, sym, ap, subst}
use Rattle.pl_errands.specs.Tickets.{Kept, events_of}
use Rattle.pl_events.specs.declared.event.What.TheVariants.{Begun}
use Rattle.pl_model.specs.Due.{is_due_on}
use Rattle.pl_model.specs.Tickets.{lane_count, next_ticket}
use Rattle.pl_course.specs.Course.{Course, known_now}
use Rattle.pl_course.proofs.Begun.{begun, begun_errands, lane_kept, may_begin, next_kept}
use Rattle.pl_course.proofs.Together.{moved, used}
use Rattle.pl_core.proofs.held.Core.begin.Goals as goal

pub begin_prepared-ticket-requires-clause-lane : goal.begin_prepared-ticket-requires-clause-lane
begin_prepared-ticket-requires-clause-lane c =
    subst (λ (one : Kept). c.args.lane ≤ lane_count (events_of one.tickets)) (sym c.in_ok-prepare.ensures.ready)
    (lane_kept c.self.inside.columns c.self.inside.history c.self.invariant c.args.op c.args.lane
    (ap (λ (course : Course). is_due_on (known_now course) c.args.op c.args.lane) c.self.view_is ∙ c.requires))

pub returns-clause-number : goal.returns-clause-number
returns-clause-number c =
    (c.begin_prepared-ticket.ensures.number
    ∙ ap (λ (one : Kept). next_ticket (events_of one.tickets)) c.in_ok-prepare.ensures.ready
    ∙ next_kept c.self.inside.columns c.self.inside.history c.self.invariant)
    ∙ ap (λ (course : Course). next_ticket course.history) c.self.view_is

pub invariant_of-self-2 : goal.invariant_of-self-2
invariant_of-self-2 c =
    moved
    (λ i. record c.self.inside.columns {
      errands = (c.begin_prepared-ticket.ensures.begun
          ∙ ap (begun_errands c.args.seat c.begin_prepared-ticket.result c.args.lane c.args.op) c.in_ok-prepare.ensures.ready) i;
    })
    (c.push_reserved.ensures
    ∙ ap (used c.args.seat (Begun c.begin_prepared-ticket.result c.args.lane c.args.op)) c.in_ok-reserve.ensures.reserved)
    (begun c.model_laws.ensures c.self.inside.columns c.self.inside.history c.self.invariant c.args.seat c.begin_prepared-ticket.result
    c.args.op c.args.lane
    (may_begin c.self.inside.columns c.self.inside.history c.self.invariant c.args.seat c.begin_prepared-ticket.result
    c.args.op c.args.lane
    (c.begin_prepared-ticket.ensures.number
    ∙ ap (λ (one : Kept). next_ticket (events_of one.tickets)) c.in_ok-prepare.ensures.ready
    ∙ next_kept c.self.inside.columns c.self.inside.history c.self.invariant)
    (ap (λ (course : Course). is_due_on (known_now course) c.args.op c.args.lane) c.self.view_is ∙ c.requires)))
