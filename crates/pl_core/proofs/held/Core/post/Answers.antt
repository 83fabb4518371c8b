use Rattle.std.proofs.Common.{◌∙◌, ap}
use Rattle.pl_events.specs.declared.event.What.TheVariants.{Posted}
use Rattle.pl_lemmas.specs.Words.{has_number}
use Rattle.pl_records.specs.Columns.{Kept}
use Rattle.pl_course.proofs.Together.{may_now, unposted}
use Rattle.pl_core.proofs.held.Core.post.Goals as goal

pub post_prepared-requires-clause-unposted : goal.post_prepared-requires-clause-unposted
post_prepared-requires-clause-unposted c =
    ap (λ (one : Kept). has_number one.records.posted c.args.n) c.in_ok-prepare.ensures.ready
    ∙ unposted c.model_laws.ensures c.self.inside.columns c.self.inside.history c.self.invariant c.args.seat c.args.n
    (may_now c.self.inside.columns c.self.inside.history c.args.self.now c.args.seat (Posted c.args.n)
    c.self.view_is c.requires)
