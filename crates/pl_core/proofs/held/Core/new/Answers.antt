use Rattle.pl_course.proofs.Start.{started}
use Rattle.pl_course.proofs.Together.{moved}
use Rattle.pl_core.proofs.held.Core.new.Goals as goal

pub invariant_of-result : goal.invariant_of-result
invariant_of-result c =
    moved
    (λ i. record {
      requests = c.new.ensures i;
      errands = c.new-in-Ok-new_claims.ensures i;
      claims = c.in-Ok-new_claims.ensures.nothing i;
      records = c.in-Ok-new_records.ensures i;
      troubles = c.new-in-Ok-new_claims-2.ensures i;
    })
    c.in-Ok.ensures (started c.args.run c.requires.host c.requires.names)
