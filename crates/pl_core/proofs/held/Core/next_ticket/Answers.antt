use Rattle.std.proofs.Common.{◌∙◌, ap}
use Rattle.pl_model.specs.Tickets.{next_ticket}
use Rattle.pl_course.specs.Course.{Course}
use Rattle.pl_course.proofs.Begun.{kept_next}
use Rattle.pl_core.proofs.held.Core.next_ticket.Goals as goal

pub returns : goal.returns
returns c =
    c.next_ticket.ensures
    ∙ kept_next c.self.inside.columns c.self.inside.history c.self.invariant
    ∙ ap (λ (one : Course). next_ticket one.history) c.self.view_is
