use Rattle.std.proofs.Common.{List, ℕ, ap, sym, subst, ◌∙◌}
use Rattle.pl_value.specs.IsValue.{AreFields}
use Rattle.pl_value.specs.Keys.{are_rising, keys_of}
use Rattle.pl_value.proofs.FieldParts.{Pairs, are_fields-parts}
use Rattle.pl_refresh.specs.Planned.{planned_outputs}
use Rattle.pl_refresh.proofs.Over.{planned-fields}
use Rattle.pl_refresh.proofs.planned.planned_outputs.Goals as goal

pub merged-requires : goal.merged-requires
merged-requires c =
    ap (λ (fields : Pairs). are_rising (keys_of fields)) c.as_slice-2.ensures.same ∙ (are_fields-parts c.args.checked.now c.as_slice-2.ensures.sound).0

pub from_vec-requires : goal.from_vec-requires
from_vec-requires c =
    subst AreFields (sym (c.in_ok-made.ensures ∙ (λ i. planned_outputs (c.as_slice.ensures.same i) (c.as_slice-2.ensures.same i))))
    (planned-fields c.unwrap_or-old.result.now c.args.checked.now c.as_slice.ensures.sound c.as_slice-2.ensures.sound)
