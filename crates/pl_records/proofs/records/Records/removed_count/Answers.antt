use Rattle.std.proofs.Common.{subst}
use Rattle.std.specs.Bool.{nat_eq}
use Rattle.std.specs.List.{IsDistinct}
use Rattle.pl_records.specs.Columns.{Kept}
use Rattle.pl_records.proofs.Newest.{distinct_reversed}
use Rattle.pl_records.proofs.records.Records.removed_count.Goals as goal

pub returns-clause-distinct : goal.returns-clause-distinct
returns-clause-distinct c =
    subst (λ (kept : Kept). IsDistinct nat_eq kept.records.removed) c.self.view_is
    (distinct_reversed c.self.inside.removed.keys c.len.ensures.unique)
